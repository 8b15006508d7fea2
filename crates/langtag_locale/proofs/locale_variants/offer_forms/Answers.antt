use Rattle.std.proofs.lemmas.Bool.Decides.{nat_tests}
use Rattle.std.proofs.Common.{arith}
use Rattle.langtag_keyword.proofs.Common.{◌≡◌, ◌∷◌, map, sym, ap, subst, ◌∙◌, map-append, one_flat, segments_left, IsOffered, order_number}
use Rattle.langtag_text.specs.Fields.{subtag_of}
use Rattle.langtag_keyword.proofs.LeastTexts.{offered-both, offered-none}
use Rattle.langtag_keyword.proofs.IdentifierParts.{AreVariants}
use Rattle.langtag_locale.specs.LocaleForm.{forms, variant_form}
use Rattle.langtag_locale.proofs.locale_variants.offer_forms.Goals as goal

pub offer_form-requires : goal.offer_form-requires
offer_form-requires g c = grind (arith, nat_tests, c.split_first.ensures)

pub loop-rest-preserved : goal.loop-rest-preserved
loop-rest-preserved g c =
    let v = c.split_first.result.0.now in
    let vs = segments_left c.args.variants in
    let others = segments_left c.split_first.result.1 in
    let here : segments_left c.loop-rest.rest ≡ v ∷ others = ap segments_left c.in-Some.is ∙ c.split_first.ensures in
    let one = one_flat (subtag_of (variant_form c.args.language.now vs v)) in
    let rest = forms c.args.language.now vs others in
    record {
      each = (subst AreVariants here c.loop-rest.invariant.each).1;
      so_far = λ new these.
          c.loop-rest.invariant.so_far new
          (subst (λ ns. IsOffered ns c.loop-rest.least new)
          (sym (map-append order_number one rest) ∙ sym (ap (λ ss. map order_number (forms c.args.language.now vs ss)) here))
          (offered-both (map order_number one) (map order_number rest) c.loop-rest.least c.offer_form.new.least new
          c.offer_form.ensures these));
    }

pub returns : goal.returns
returns g c =
    c.loop-rest.invariant.so_far c.loop-rest.least
    (subst (λ rest. IsOffered (map order_number (forms c.args.language.now (segments_left c.args.variants) (segments_left rest))) c.loop-rest.least c.loop-rest.least) (sym c.in_default.is)
    (offered-none c.loop-rest.least))
