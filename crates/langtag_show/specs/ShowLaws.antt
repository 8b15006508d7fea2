-- A line has only one answer. The contract of `run` states this law, so it need not be trusted.
use Rattle.std.proofs.Common.{◌≡◌, ◌∙◌, ℕ, Some, List, ◌++◌, slice_get, sym, ap}
use Rattle.std.specs.Prelude.{codes}
use Rattle.langtag_scan.specs.Grammar.{irregular_texts, Record, Spells, IsIrregular, IsIrregularAt}
use Rattle.langtag_scan.proofs.IrregularTexts.{irregular_once, normal_no_private, normal_no_irregular, private_no_irregular}
use Rattle.langtag_scan.proofs.NormalTexts.{spelled_once}
use Rattle.langtag_scan.proofs.SpelledTexts.{normal_spelled}
use Rattle.langtag_scan.proofs.TagLaws.{tag_normal, tag_private, tag_irregular}
use Rattle.langtag_show.specs.ShowAnswer.{normal_answer, IsShowAnswer, normal, private_use, irregular, refused}

-- a line that equals the irregular tag at an index is irregular
irregular_line : (k : ℕ) (line : List ℕ) → IsIrregularAt k line → IsIrregular line
unfolding IsIrregular
irregular_line k line is = (k, is)

-- a line has at most one record
one_record : (r q : Record) (line : List ℕ) → Spells r line → Spells q line → r ≡ q
one_record r q line (well, spells) (also_well, also_spells) = spelled_once r q well also_well (spells ∙ sym also_spells)

-- a line has at most one registered spelling
one_spelling :
    (j k : ℕ) (text other line : List ℕ) → IsIrregularAt j line → IsIrregularAt k line → slice_get irregular_texts j ≡ Some text →
    slice_get irregular_texts k ≡ Some other
    → text ≡ other
one_spelling j k text other line is also at there =
    let same : j ≡ k = irregular_once j k line is also in
    cc

pub one_show_answer : (line text other : List ℕ) → IsShowAnswer line text → IsShowAnswer line other → text ≡ other
one_show_answer line text other (normal r is said) (normal q also says) = said ∙ ap normal_answer (one_record r q line is also) ∙ sym says
one_show_answer line text other (normal r is said) (private_use also says) = absurd (normal_no_private line (normal_spelled line r is) also)
one_show_answer line text other (normal r is said) (irregular k name also at says) = absurd (normal_no_irregular line (normal_spelled line r is) (irregular_line k line also))
one_show_answer line text other (normal r is said) (refused not says) = absurd (not (tag_normal line (normal_spelled line r is)))
one_show_answer line text other (private_use is said) (normal r also says) = absurd (normal_no_private line (normal_spelled line r also) is)
one_show_answer line text other (private_use is said) (private_use also says) = said ∙ sym says
one_show_answer line text other (private_use is said) (irregular k name also at says) = absurd (private_no_irregular line is (irregular_line k line also))
one_show_answer line text other (private_use is said) (refused not says) = absurd (not (tag_private line is))
one_show_answer line text other (irregular k name is at said) (normal r also says) = absurd (normal_no_irregular line (normal_spelled line r also) (irregular_line k line is))
one_show_answer line text other (irregular k name is at said) (private_use also says) = absurd (private_no_irregular line also (irregular_line k line is))
one_show_answer line text other (irregular j name is at said) (irregular k same also there says) =
    said ∙ ap (λ t. codes "irregular " ++ t) (one_spelling j k name same line is also at there) ∙ sym says
one_show_answer line text other (irregular k name is at said) (refused not says) = absurd (not (tag_irregular line k is))
one_show_answer line text other (refused not said) (normal r is says) = absurd (not (tag_normal line (normal_spelled line r is)))
one_show_answer line text other (refused not said) (private_use is says) = absurd (not (tag_private line is))
one_show_answer line text other (refused not said) (irregular k name is at says) = absurd (not (tag_irregular line k is))
one_show_answer line text other (refused is said) (refused also says) = said ∙ sym says
