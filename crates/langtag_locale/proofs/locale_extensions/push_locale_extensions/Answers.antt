use Rattle.langtag_keyword.proofs.Common.{ℕ, List, ◌+◌, ◌++◌, false, drop, get_or, sym, ap, ◌∙◌, eqb-true, at_drop_more, flat_map, pushes_both, pushes_ended, pushes_same, fold_byte, extension_flat}
use Rattle.std.proofs.lemmas.List.{at_drop_all, nil_from_length}
use Rattle.langtag_extension.specs.Noted.{singletons}
use Rattle.langtag_locale.specs.LocaleForm.{extension_at, extensions_in_order}
use Rattle.langtag_locale.proofs.LocaleRecords.{at_nothing, each_singleton, flat_of_each, none_spelled, not_noted}
use Rattle.langtag_locale.proofs.locale_extensions.push_locale_extensions.Goals as goal

pub returns-then-is_empty : goal.returns-then-is_empty
returns-then-is_empty c = λ es spells.
    let empty = sym c.as_str.ensures.same_text ∙ nil_from_length c.as_str.result.now (eqb-true _ _ (sym c.is_empty.ensures ∙ c.if-is_empty.true)) in
    pushes_ended _ _ (ap (λ es. flat_map extension_flat (extensions_in_order es)) (none_spelled es _ spells empty))

pub loop-singleton-init : goal.loop-singleton-init
loop-singleton-init c = λ es spells new these. these

pub push_extension_at-requires-clause-singleton : goal.push_extension_at-requires-clause-singleton
push_extension_at-requires-clause-singleton c = each_singleton c.loop-singleton.singleton-index c.loop-singleton-test.true

pub loop-singleton-preserved-then-not-present-from : goal.loop-singleton-preserved-then-not-present-from
loop-singleton-preserved-then-not-present-from c =
    let k = c.loop-singleton.singleton-index in
    let singleton = get_or singletons k 0 in
    λ es spells new these.
    let of : ℕ → List (List ℕ) = λ singleton. flat_map extension_flat (extension_at es singleton) in
    let unmarked = ap (λ at. get_or c.singletons_of-present.result at false) (sym (c.from.ensures ∙ c.into_smallcase.ensures)) ∙ c.if-not-present-from.true in
    let none = at_nothing es singleton (not_noted singleton es (c.singletons_of-present.ensures es spells (fold_byte singleton) unmarked)) in
    c.loop-singleton.invariant es spells new
    (pushes_same _ _ _ new
    (sym (at_drop_more (flat_map of) singletons k 0 c.loop-singleton-test.true ∙ ap (λ put. put ++ flat_map of (drop (k + 1) singletons)) none)) these)

pub loop-singleton-preserved : goal.loop-singleton-preserved
loop-singleton-preserved c =
    let k = c.loop-singleton.singleton-index in
    λ es spells new these.
    let of : ℕ → List (List ℕ) = λ singleton. flat_map extension_flat (extension_at es singleton) in
    c.loop-singleton.invariant es spells new
    (pushes_same _ _ _ new (sym (at_drop_more (flat_map of) singletons k 0 c.loop-singleton-test.true))
    (pushes_both (of (get_or singletons k 0)) (flat_map of (drop (k + 1) singletons)) _ _ new (c.push_extension_at.ensures es spells) these))

pub returns : goal.returns
returns c = λ es spells.
    let of : ℕ → List (List ℕ) = λ singleton. flat_map extension_flat (extension_at es singleton) in
    pushes_same _ _ _ _ (sym (flat_of_each es singletons))
    (c.loop-singleton.invariant es spells _ (pushes_ended _ _ (at_drop_all (flat_map of) singletons c.loop-singleton.singleton-index c.loop-singleton-test.false)))
