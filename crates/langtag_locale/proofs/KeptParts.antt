-- The locale to format with keeps the parts of the tag, is in its script, and has what the range asks for.
use Rattle.langtag_keyword.proofs.Common.{refl, Record, IsWellFormed, is_some, find_extension}
use Rattle.langtag_locale.specs.Resolved.{Wish, resolved_record, resolved_subtags, wish_for}
use Rattle.langtag_locale.specs.ResolvedLaws.{EachResolved, KeepsParts}
use Rattle.langtag_locale.proofs.ChangedUnicode.{attributes-changed, others-changed}
use Rattle.langtag_locale.proofs.MergedKeywords.{resolved-attributes}
use Rattle.langtag_locale.proofs.ResolvedTexts.{IsAllowed, asked_allowed, each_resolved}

keeps-parts : (w : Wish) (r : Record) → IsAllowed w → IsWellFormed r → KeepsParts r (resolved_record (wish_for r w) r)
unfolding resolved_record
keeps-parts w r allowed fits =
    let asked : Wish = wish_for r w in
    let stands = is_some (find_extension 117 r.extensions) in
    record {
      primary = refl;
      extended = refl;
      variants = refl;
      attributes = attributes-changed (resolved_subtags asked) (resolved-attributes asked (asked_allowed r w allowed).unicode) stands r.extensions;
      others = others-changed (resolved_subtags asked) stands r.extensions;
      private_use = refl;
    }

pub parts_kept : EachResolved KeepsParts
parts_kept = each_resolved KeepsParts (λ r fits. record { primary = refl; extended = refl; variants = refl; attributes = refl; others = refl; private_use = refl }) keeps-parts
