-- The derived comparisons of the grandfathered tags, and the order of tags of which one begins the other.
use Rattle.langtag_scan.proofs.Prelude.{◌≡◌, ◌==◌, ℕ, List, refl, ap, ◌∙◌, arith, nat_cmp, Fits-of_lt, common_steps, Greater, nat_tests}
use Rattle.langtag_scan.specs.Grammar.{EndsFirst, case_cmp, IsNormal, IsTag}
use denote.Enum.Declared.{tag_of}
use Rattle.std.specs.Hash.{usize}
use Rattle.langtag_scan.proofs.Ascii.{IsAscii-tag}
use Rattle.langtag_scan.proofs.CaseOrder.{case_cmp-ends_first}
use Rattle.langtag_scan.proofs.TagLaws.{tag_normal}
use Rattle.langtag.specs.contracts.grandfathered.GrandfatheredLangTagHash.TheImpl as tag_hash
use Rattle.langtag.specs.contracts.grandfathered.GrandfatheredLangTagOrd.TheImpl as tag_order
use Rattle.langtag.specs.contracts.grandfathered.GrandfatheredLangTagPartialEq.TheImpl as tag_equality
use Rattle.langtag.specs.contracts.grandfathered.GrandfatheredLangTag.{the_type}
use Rattle.langtag.specs.declared.grandfathered.GrandfatheredLangTag.{GrandfatheredLangTag}
use Rattle.langtag.specs.declared.grandfathered.TheConstants.{GRANDFATHERED}
use Rattle.langtag.proofs.RegisteredLaws.{at_member, listed}
use Rattle.langtag.specs.Order.{TagsCompareByIndex}
use Rattle.langtag.specs.Registered.{index_of}

-- what a derived comparison reads of a variant is its index
tag_of-index : (tag : GrandfatheredLangTag) → tag_of the_type tag ≡ index_of tag
tag_of-index tag = at_member (tag_of the_type) index_of GRANDFATHERED (index_of tag) tag (listed tag) refl

pub equal : (a b : GrandfatheredLangTag) → tag_equality.eq-value.it a b ≡ (index_of a == index_of b)
equal a b = ap (λ n. n == tag_of the_type b) (tag_of-index a) ∙ ap (λ n. index_of a == n) (tag_of-index b)

ordered : (a b : GrandfatheredLangTag) → tag_order.cmp-value.it a b ≡ nat_cmp (index_of a) (index_of b)
ordered a b = grind (arith, nat_tests, nat_cmp, at_member)

-- and what it feeds to a hasher
hashed : (tag : GrandfatheredLangTag) → tag_hash.hash_input-value.it tag ≡ usize (index_of tag)
hashed tag = at_member tag_hash.hash_input-value.it (λ t. usize (index_of t)) GRANDFATHERED (index_of tag) tag (listed tag) refl

pub tags_compare : TagsCompareByIndex
tags_compare = record { equal = equal; ordered = ordered; hashed = hashed }

-- a tag that begins another, but for case, and ends first is the greater
pub tag_ends_first : (t u : List ℕ) → IsTag u → EndsFirst t u → case_cmp t u ≡ Greater
tag_ends_first t u tag ends = grind (arith, common_steps, IsAscii-tag u tag, case_cmp-ends_first t u, Fits-of_lt)

pub normal_ends_first : (t u : List ℕ) → IsNormal u → EndsFirst t u → case_cmp t u ≡ Greater
normal_ends_first t u normal ends = tag_ends_first t u (tag_normal u normal) ends
