use Rattle.std.proofs.Common.{◌∙◌, ◌≡◌, Option, None, length, sym, ap, subst, arith}
use Rattle.langtag_scan.specs.Grammar.{IsTag}
use Rattle.langtag_posix.specs.PlatformNames.{is_of_language}
use Rattle.langtag_posix.specs.Posix.{has_good_codeset}
use Rattle.langtag_scan.proofs.Prelude.{MatchOption}
use Rattle.langtag_posix.proofs.TextOfName.{counted_cut, few_counted, cut_follows, cut_name, cut_text}
use Rattle.langtag_posix.proofs.posix_text.tag_of_name.Goals as goal

none_of : {A : Type 0} (P : Type 0) (Q : A → Type 0) (r : Option A) → r ≡ None → P → MatchOption r P Q
none_of P Q r is p = subst (λ it. MatchOption it P Q) (sym is) p

pub returns-then-not-is_of_language-clause-tag : goal.returns-then-not-is_of_language-clause-tag
returns-then-not-is_of_language-clause-tag c = λ names.
    let cut = cut_name c.args.name.now _ _ _ _ _ _ c.place_of-place.ensures c.read_place.ensures.text c.front_and_modifier.ensures.front c.front_and_modifier.ensures.modifier c.extensions_behind-extensions.ensures c.without_java_field-place.ensures in
    absurd (cc (ap is_of_language cut.place, names.language, c.is_of_language.ensures, c.if-not-is_of_language.true))

pub returns-then-not-has_good_codeset-clause-tag : goal.returns-then-not-has_good_codeset-clause-tag
returns-then-not-has_good_codeset-clause-tag c = λ names.
    absurd (cc (ap has_good_codeset c.behind_front.ensures, c.has_good_codeset.ensures, names.codeset, c.if-not-has_good_codeset.true))

pub returns-then-not-may_follow-clause-tag : goal.returns-then-not-may_follow-clause-tag
returns-then-not-may_follow-clause-tag c = λ names.
    let cut = cut_name c.args.name.now _ _ _ _ _ _ c.place_of-place.ensures c.read_place.ensures.text c.front_and_modifier.ensures.front c.front_and_modifier.ensures.modifier c.extensions_behind-extensions.ensures c.without_java_field-place.ensures in
    absurd (cc (cut_follows _ _ _ _ cut, names.follows, c.may_follow.ensures, c.are_keywords.ensures, c.if-not-may_follow.true))

pub returns-then-len-gt-MOST_NAMED-clause-tag : goal.returns-then-len-gt-MOST_NAMED-clause-tag
returns-then-len-gt-MOST_NAMED-clause-tag c = λ names.
    let cut = cut_name c.args.name.now _ _ _ _ _ _ c.place_of-place.ensures c.read_place.ensures.text c.front_and_modifier.ensures.front c.front_and_modifier.ensures.modifier c.extensions_behind-extensions.ensures c.without_java_field-place.ensures in
    let size = ap length (cut_text _ _ _ _ cut) in
    absurd (omega (arith, few_counted, c.put_text-len.ensures.counted, size, names.few, c.if-len-gt-MOST_NAMED.true))

pub returns-clause-tag : goal.returns-clause-tag
returns-clause-tag c =
    let cut = cut_name c.args.name.now _ _ _ _ _ _ c.place_of-place.ensures c.read_place.ensures.text c.front_and_modifier.ensures.front c.front_and_modifier.ensures.modifier c.extensions_behind-extensions.ensures c.without_java_field-place.ensures in
    let few = c.if-len-gt-MOST_NAMED.false in
    let short = c.if-place-gt-MOST.false in
    let text = counted_cut _ _ _ _ c.put_text-len.ensures (omega (arith, few)) (omega (arith, c.fits-room)) ∙ cut_text _ _ _ _ cut in
    let found = c.in_ok-tag.ensures in
    let is = found.1 ∙ text in (
      record {
        tag = subst IsTag text found.0;
        language = cc (ap is_of_language cut.place, c.is_of_language.ensures, c.if-not-is_of_language.false);
        codeset = cc (ap has_good_codeset c.behind_front.ensures, c.has_good_codeset.ensures, c.if-not-has_good_codeset.false);
        follows = cc (cut_follows _ _ _ _ cut, c.may_follow.ensures, c.are_keywords.ensures, c.if-not-may_follow.false);
        short = omega (arith, short, ap length c.place_of-place.ensures);
        few = omega (arith, ap length (cut_text _ _ _ _ cut), few_counted, c.put_text-len.ensures.counted, few);
      },
      is,
    )

pub returns-in_err-tag-clause-tag : goal.returns-in_err-tag-clause-tag
returns-in_err-tag-clause-tag c =
    let cut = cut_name c.args.name.now _ _ _ _ _ _ c.place_of-place.ensures c.read_place.ensures.text c.front_and_modifier.ensures.front c.front_and_modifier.ensures.modifier c.extensions_behind-extensions.ensures c.without_java_field-place.ensures in
    let few = c.if-len-gt-MOST_NAMED.false in
    let text = counted_cut _ _ _ _ c.put_text-len.ensures (omega (arith, few)) (omega (arith, c.fits-room)) ∙ cut_text _ _ _ _ cut in
    none_of _ _ _ c.from_residual.ensures (λ names. c.in_err-tag.ensures (subst IsTag (sym text) names.tag))
