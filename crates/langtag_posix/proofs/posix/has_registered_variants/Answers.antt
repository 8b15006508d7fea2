use Rattle.std.proofs.Common.{IsTrue, inl, inr, ap, sym, subst, ◌∙◌, arith}
use Rattle.langtag_scan.specs.Prelude.{list_all}
use Rattle.langtag_scan.specs.Grammar.{IsNormal, Spells}
use Rattle.langtag.specs.Definitions.{IsGrandfathered}
use Rattle.langtag.proofs.PartRules.{variants_listed}
use Rattle.langtag_fields.specs.Registered.{is_registered_variant}
use Rattle.langtag_posix.proofs.posix.has_registered_variants.Goals as goal

pub returns-then-all_registered-clause-variants : goal.returns-then-all_registered-clause-variants
returns-then-all_registered-clause-variants c = λ r spells.
    let part = c.variants.ensures.part r (subst (Spells r) (sym c.in-Some.ensures.same_text) spells) in
    let same = c.all_registered.ensures ∙ ap (list_all is_registered_variant) (variants_listed r _ spells.0 part) in
    (λ is. inr (subst IsTrue same is), λ _. grind (arith, c.if-all_registered.true))

pub returns-else-all_registered-clause-variants : goal.returns-else-all_registered-clause-variants
returns-else-all_registered-clause-variants c = λ r spells.
    let part = c.variants.ensures.part r (subst (Spells r) (sym c.in-Some.ensures.same_text) spells) in
    let same = c.all_registered.ensures ∙ ap (list_all is_registered_variant) (variants_listed r _ spells.0 part) in (
      λ is. inl (subst IsGrandfathered (sym spells.1) (c.is_grandfathered.ensures.0 is)),
      λ has. elim has [
        | inl whole ↦ c.is_grandfathered.ensures.1 (subst IsGrandfathered spells.1 whole)
        | inr all ↦ absurd (grind (arith, same, all, c.if-all_registered.false))
      ],
    )

pub returns-in-None-clause-variants : goal.returns-in-None-clause-variants
unfolding IsNormal
returns-in-None-clause-variants c = λ r spells. let no = c.in-None.ensures.kind.1 (r, spells) in absurd cc
