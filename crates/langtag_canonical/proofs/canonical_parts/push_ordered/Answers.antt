use Rattle.langtag_scan.proofs.Prelude.{◌≡◌, ◌≤◌, ◌∷◌, [], false, length, get_or, sym, ap, ◌∙◌, arith, eqb-true, nat_tests, nil_from_length}
use Rattle.langtag.specs.Definitions.{extensions_text, of_singleton}
use Rattle.langtag_canonical.proofs.ExtensionOrder.{spellings, left_from, left_from-ends, pushes_one_more, spelled_in_order, none_in_order, all_in_order}
use Rattle.langtag_text.proofs.Pushed.{pushes_same, pushes_ended}
use Rattle.langtag_canonical.proofs.canonical_parts.push_ordered.Goals as goal

pub returns-then-is_empty : goal.returns-then-is_empty
returns-then-is_empty c = λ es spells.
    none_in_order es _ _ spells (sym c.as_str.ensures.same_text ∙ nil_from_length c.as_str.result.now (eqb-true _ _ (sym c.is_empty.ensures ∙ c.if-is_empty.true)))

pub returns-then-are_in_order : goal.returns-then-are_in_order
returns-then-are_in_order c =
    let test = sym c.is_empty.ensures ∙ c.if-is_empty.false in
    let here = ap length c.as_str.ensures.same_text in
    let some : 1 ≤ length (extensions_text c.args.extensions) = grind (arith, nat_tests, here, test) in
    λ es spells.
    all_in_order es _ _ _ spells some ((c.are_in_order.ensures es spells).0 c.if-are_in_order.true)
    (pushes_same _ _ _ _ (ap (λ t. t ∷ []) c.as_bytes.ensures) c.push_subtag.ensures)

pub loop-singleton-init : goal.loop-singleton-init
loop-singleton-init c = λ es spells new these. pushes_same _ _ _ new ((left_from-ends es spells.members).0) these

pub loop-singleton-preserved-then-not-present-from : goal.loop-singleton-preserved-then-not-present-from
loop-singleton-preserved-then-not-present-from c =
    let small = c.loop-singleton.singleton in
    λ es spells new these.
    let none = c.singletons_of-present.ensures es spells small
    (ap (λ at. get_or c.singletons_of-present.result at false) (sym c.from.ensures) ∙ c.if-not-present-from.true) in
    c.loop-singleton.invariant es spells new (pushes_one_more small (spellings es) _ _ new (pushes_ended (of_singleton small (spellings es)) _ none) these)

pub loop-singleton-preserved : goal.loop-singleton-preserved
loop-singleton-preserved c =
    λ es spells new these.
    c.loop-singleton.invariant es spells new (pushes_one_more c.loop-singleton.singleton (spellings es) _ _ new (c.push_singleton.ensures es spells) these)

pub returns : goal.returns
returns c =
    let at : c.loop-singleton.singleton ≡ 123 = omega arith in
    λ es spells.
    spelled_in_order es _ _ (c.loop-singleton.invariant es spells _
    (pushes_ended _ _ (ap (λ n. left_from n (spellings es)) at ∙ (left_from-ends es spells.members).1)))
