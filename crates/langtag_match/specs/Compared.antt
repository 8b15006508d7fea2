-- The range types compare and hash by their texts, ignoring the case of ASCII letters (RFC 4647 section 2).
use Rattle.std.specs.Prelude.{◌≡◌, ◌==◌, ◌&&◌}
use Rattle.langtag_scan.specs.Grammar.{are_alike, ComparesByCase}
use Rattle.langtag_match.specs.contracts.language_range.LanguageRangeHash.TheImpl as range_hash
use Rattle.langtag_match.specs.contracts.language_range.LanguageRangeOrd.TheImpl as range_order
use Rattle.langtag_match.specs.contracts.language_range.LanguageRangePartialEq.TheImpl as range_equality
use Rattle.langtag_match.specs.contracts.language_range.LanguageRangeBufHash.TheImpl as range_buf_hash
use Rattle.langtag_match.specs.contracts.language_range.LanguageRangeBufOrd.TheImpl as range_buf_order
use Rattle.langtag_match.specs.contracts.language_range.LanguageRangeBufPartialEq.TheImpl as range_buf_equality
use Rattle.langtag_match.specs.contracts.weighted_range.WeightedRangePartialEq.TheImpl as weighted_equality
use Rattle.langtag_match.specs.Text.{language_range_text, language_range_buf_text, weighted_range_text}
use Rattle.langtag_match.specs.declared.weighted_range.WeightedRange.{WeightedRange}

abbrev pub LanguageRangesCompareByCase : Type 0
LanguageRangesCompareByCase =
    ComparesByCase language_range_text range_equality.eq-value.it range_order.cmp-value.it range_hash.hash_input-value.it

abbrev pub LanguageRangeBufsCompareByCase : Type 0
LanguageRangeBufsCompareByCase =
    ComparesByCase language_range_buf_text range_buf_equality.eq-value.it range_buf_order.cmp-value.it range_buf_hash.hash_input-value.it

-- weighted ranges have only `==`: they are equal if their ranges are alike and their weights are equal
abbrev pub WeightedRangesCompareByBoth : Type 0
WeightedRangesCompareByBoth =
    (a b : WeightedRange) → weighted_equality.eq-value.it a b ≡ (are_alike (weighted_range_text a) (weighted_range_text b) && (a.weight == b.weight))
