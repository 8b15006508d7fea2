use Rattle.langtag_keyword.proofs.Common.{inl, inr, refl, sym, ap, subst, ◌∙◌, spell}
use Rattle.langtag_scan.proofs.Laws.{spelled_once}
use Rattle.langtag_scan.specs.Grammar.{Spells}
use Rattle.langtag_scan.specs.Tag.{IsNormal, IsTag}
use Rattle.langtag.specs.Definitions.{lang_tag_buf_text, lang_tag_text, normal_lang_tag_text}
use Rattle.langtag_scan.proofs.Prelude.{IfOk-weaker}
use Rattle.langtag_keyword.proofs.FormRecords.{Good}
use Rattle.langtag_locale.specs.Resolved.{resolved_record, wish_for, wish_of}
use Rattle.langtag_locale.specs.WishTexts.{wish_texts}
use Rattle.langtag_locale.proofs.RangeLaws.{kept_resolved, kept_tag, known_locale}
use Rattle.langtag_locale.proofs.ResolvedRecords.{good_unicode, resolved_well}
use Rattle.langtag_locale.proofs.resolved.resolved_locale.Goals as goal

pub returns-in_default : goal.returns-in_default
returns-in_default c =
    let kept = kept_tag c.args.range.now (lang_tag_text c.args.tag) (c.in_default.ensures.none refl) in
    record { resolved = IfOk-weaker c.try_to_owned.result _ _ (λ owned same. kept_resolved c.args.range.now (lang_tag_text c.args.tag) kept (lang_tag_buf_text owned) same) c.try_to_owned.ensures }

pub returns-in_default-range_locale : goal.returns-in_default-range_locale
returns-in_default-range_locale c =
    record {
      resolved =
          IfOk-weaker c.try_to_owned-in_default-range_locale.result _ _ (λ owned same. kept_resolved c.args.range.now (lang_tag_text c.args.tag) (inr (inr (c.in_default-range_locale.ensures.none refl))) (lang_tag_buf_text owned) same)
          c.try_to_owned-in_default-range_locale.ensures;
    }

pub tag_of-requires : goal.tag_of-requires
unfolding IsNormal IsTag
tag_of-requires c =
    let (r, spells) = c.in-Some.ensures.some.1 in
    let here : Spells r (normal_lang_tag_text c.in-Some.normal) = (spells.0, spells.1 ∙ sym c.in-Some.ensures.some.0) in
    let (l, ls, is) = known_locale c.args.range.now (normal_lang_tag_text c.in-Some-range_locale.locale) c.in-Some-range_locale.ensures.some in
    let wish = c.for_tag-wish.ensures.wish r here ∙ ap (wish_for r) (c.of.ensures.wish l ls) in
    let good : Good (wish_texts c.for_tag-wish.result).unicode = subst (λ w. Good w.unicode) (sym wish) (good_unicode l ls.0) in
    inl
    (resolved_record (wish_texts c.for_tag-wish.result) r, (resolved_well (wish_texts c.for_tag-wish.result) r spells.0 c.for_tag-wish.result.region_class good, sym (c.in_ok-resolved_bytes.ensures r here)))

pub returns : goal.returns
unfolding IsNormal
returns c =
    let (r, spells) = c.in-Some.ensures.some.1 in
    let here : Spells r (normal_lang_tag_text c.in-Some.normal) = (spells.0, spells.1 ∙ sym c.in-Some.ensures.some.0) in
    record {
      resolved = inr (record {
        normal = c.in-Some.ensures.some.1;
        other = c.in-Some.ensures.some.2;
        locale = normal_lang_tag_text c.in-Some-range_locale.locale;
        is_locale = c.in-Some-range_locale.ensures.some;
        parts = λ l ls q qs.
            c.tag_of.ensures ∙ c.in_ok-resolved_bytes.ensures r here ∙ ap (λ w. spell (resolved_record w r)) (c.for_tag-wish.ensures.wish r here ∙ ap (wish_for r) (c.of.ensures.wish l ls))
            ∙ ap (λ q. spell (resolved_record (wish_for q (wish_of l)) q)) (spelled_once r q spells.0 qs.0 (spells.1 ∙ sym qs.1));
      });
    }
