use Rattle.langtag_scan.proofs.Prelude.{and_from}
use Rattle.langtag_scan.proofs.Prelude.{both_ways}
use Rattle.langtag_scan.proofs.Prelude.{eq-eqb}
use Rattle.langtag_scan.proofs.Prelude.{not-true}
use Rattle.std.proofs.lemmas.Grind.{common_steps}
use Rattle.std.proofs.Common.{arith, sym, ◌∙◌}
use Rattle.langtag_range.specs.Listed.{basic_text}
use Rattle.langtag_choice.proofs.FarTags.{far_by_numbers, nothing_kept}
use Rattle.langtag_choice.proofs.wish.Wish.is_far_from_language.Goals as goal

pub returns-then-is_far-clause-far : goal.returns-then-is_far-clause-far
returns-then-is_far-clause-far c = λ yes tag begins.
    grind (
      arith,
      common_steps,
      far_by_numbers c.in-Some.own.number c.args.number c.in-Some.own.letters c.args.letters (basic_text c.args.self.now.range.now) tag (c.is_far.ensures c.if-is_far.true)
          (c.args.self.now.number c.in-Some.own (sym c.requires.own ∙ c.in-Some.is)) (c.args.self.now.begins c.in-Some.own (sym c.requires.own ∙ c.in-Some.is)) begins,
      c.ne.ensures,
      both_ways,
      not-true,
      and_from,
      eq-eqb,
    )

pub returns-then-is_far-clause-kept : goal.returns-then-is_far-clause-kept
returns-then-is_far-clause-kept c = grind (arith, common_steps, nothing_kept, c.args.self.now.begins, c.requires.own, c.ne.ensures, both_ways, not-true, and_from, eq-eqb)
