use Rattle.std.proofs.lemmas.Bool.Decides.{nat_tests}
use Rattle.std.proofs.Common.{arith}
use Rattle.langtag_keyword.proofs.Common.{drop, [], sym, ap, ◌∙◌, subtags}
use Rattle.langtag_extension.proofs.ExtensionLookUp.{subtags_found}
use Rattle.langtag_keyword.proofs.KeySetLaws.{after-singleton-fits}
use Rattle.langtag_keyword.proofs.SubtagTexts.{subtags-after_singleton, boundary-after_singleton}
use Rattle.langtag_unicode.proofs.extension_text.extension_text.Goals as goal

pub range_from-requires : goal.range_from-requires
range_from-requires c _ = boundary-after_singleton _ c.as_str.utf8 c.as_str.ensures.in_class

pub returns-in-Some-clause-subtags : goal.returns-in-Some-clause-subtags
returns-in-Some-clause-subtags c = record {
  part = λ r spells.
      subtags_found _ r.extensions spells.0.extensions _ _ (c.in-Some.ensures.first_match r.extensions (record { members = spells.0.extensions; joined = sym (c.extensions.ensures.part.part r spells) }))
      (λ e spelled. ap subtags (c.range_from.ensures.value ∙ ap (drop 2) c.as_str.ensures.same_text) ∙ subtags-after_singleton e _ spelled);
  absent = λ other.
      let none = c.in-Some.ensures.first_match [] (record { members = tt; joined = sym (c.extensions.ensures.part.absent other) }) in
      absurd cc;
}

pub returns-in-Some-clause-in_class : goal.returns-in-Some-clause-in_class
returns-in-Some-clause-in_class c = grind (arith, nat_tests, c.range_from.ensures.value, after-singleton-fits, c.as_str.ensures.in_class)
