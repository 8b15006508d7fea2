use Rattle.langtag_scan.proofs.Prelude.{◌≡◌, true, false, sym, ◌∙◌, arith, nat_tests}
use Rattle.langtag_cldr.proofs.BaseTexts.{base_ends, base_goes, plain_rest}
use Rattle.langtag_cldr.proofs.replacement.base.Goals as goal

pub is_baseless-requires : goal.is_baseless-requires
is_baseless-requires c = plain_rest c.loop-len.len c.args.text.now c.requires

pub loop-len-smaller : goal.loop-len-smaller
loop-len-smaller c =
    let some : c.is_baseless.result ≡ false = grind (arith, nat_tests, c.loop-len-test.ensures, c.loop-len-test.true) in
    let inside = (base_goes c.loop-len.len c.args.text.now c.requires (sym c.is_baseless.ensures ∙ some)).0 in
    omega (arith, inside)

pub loop-len-preserved : goal.loop-len-preserved
loop-len-preserved c =
    let some : c.is_baseless.result ≡ false = grind (arith, nat_tests, c.loop-len-test.ensures, c.loop-len-test.true) in
    let goes = base_goes c.loop-len.len c.args.text.now c.requires (sym c.is_baseless.ensures ∙ some) in
    record {
      within = let inside = goes.0 in omega (arith, inside);
      same = sym goes.1 ∙ c.loop-len.invariant.same;
    }

pub returns : goal.returns
returns c =
    let none : c.is_baseless.result ≡ true = grind (arith, nat_tests, c.loop-len-test.ensures, c.loop-len-test.false) in
    base_ends c.loop-len.len c.args.text.now c.requires (sym c.is_baseless.ensures ∙ none) ∙ c.loop-len.invariant.same
