use Rattle.langtag_scan.proofs.Prelude.{◌≡◌, ◌∙◌, sym, arith, drop, true, take-length, length-drop, length-take-le, nat_tests}
use Rattle.langtag_scan.specs.Grammar.{ends_of, IsNormal}
use Rattle.langtag_posix.specs.Posix.{is_posix_alone}
use Rattle.langtag_posix.proofs.PosixLaws.{alone, extensions_stay, others_stay, posix_after, posix_around, variants_inside}
use Rattle.langtag_posix.proofs.posix_variant.around_posix.Goals as goal

pub returns-then-ends : goal.returns-then-ends
returns-then-ends c = grind (arith, nat_tests, c.ends-ends.ensures, extensions_stay, c.if-ends.true)

pub returns-then-not-eq_str : goal.returns-then-not-eq_str
returns-then-not-eq_str c = grind (arith, nat_tests, others_stay, alone, c.variants.ensures.part, c.eq_str.ensures.test, c.if-not-eq_str.true)

pub slice_bounds-result-count : goal.slice_bounds-result-count
unfolding IsNormal
slice_bounds-result-count c =
    grind (arith, posix_after, alone, c.as_str.ensures, c.ends-ends.ensures, c.variants.ensures.part, c.eq_str.ensures.test)

pub returns : goal.returns
returns c = λ r spells.
    let ends = c.ends-ends.ensures r spells in
    let same : (ends_of r).variants ≡ (ends_of r).extensions = grind (arith, ends, c.if-ends.false) in
    let variants = c.variants.ensures.part r spells in
    let posix : is_posix_alone r.variants ≡ true = grind (arith, alone, spells, variants, c.eq_str.ensures.test) in
    let text = c.as_bytes-text.ensures.value ∙ c.as_str.ensures.same_text ∙ sym spells.1 in
    let rest = drop c.ends-ends.result.variants c.as_bytes-text.result.now in
    grind (arith, ends, text, posix_around r same posix, take-length rest, length-drop)

pub slice_bounds-result-length : goal.slice_bounds-result-length
unfolding IsNormal
slice_bounds-result-length c = grind (arith, nat_tests, length-take-le, variants_inside, c.as_str.ensures, c.ends-ends.ensures)
