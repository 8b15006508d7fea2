use Rattle.langtag_keyword.proofs.Common.{inr, refl, sym, ap, ◌∙◌, spell}
use Rattle.langtag_scan.proofs.Laws.{spelled_once}
use Rattle.langtag_scan.specs.Grammar.{Spells}
use Rattle.langtag_scan.specs.Tag.{IsNormal}
use Rattle.langtag.specs.Definitions.{lang_tag_text, normal_lang_tag_text}
use Rattle.langtag_locale.specs.Resolved.{resolved_record, wish_for, wish_of}
use Rattle.langtag_locale.specs.WishTexts.{wish_texts}
use Rattle.langtag_locale.proofs.RangeLaws.{kept_resolved, kept_tag}
use Rattle.langtag_locale.proofs.resolved.write_resolved_locale.Goals as goal

pub returns-in_default : goal.returns-in_default
returns-in_default c =
    let w = c.write_kept.ensures in
    let kept = kept_tag c.args.range.now (lang_tag_text c.args.tag) (c.in_default.ensures.none refl) in
    record { resolved = record { text = w.text; is_so = kept_resolved c.args.range.now (lang_tag_text c.args.tag) kept w.text w.is_so; whole = w.whole; written = w.written } }

pub returns-in-Some-range_locale : goal.returns-in-Some-range_locale
unfolding IsNormal
returns-in-Some-range_locale c =
    let (r, spells) = c.in-Some.ensures.some.1 in
    let here : Spells r (normal_lang_tag_text c.in-Some.normal) = (spells.0, spells.1 ∙ sym c.in-Some.ensures.some.0) in
    let put = c.put_resolved.ensures r here in
    record {
      resolved = record {
        text = spell (resolved_record (wish_texts c.for_tag.result) r);
        is_so = inr (record {
          normal = c.in-Some.ensures.some.1;
          other = c.in-Some.ensures.some.2;
          locale = normal_lang_tag_text c.in-Some-range_locale.locale;
          is_locale = c.in-Some-range_locale.ensures.some;
          parts = λ l ls q qs.
              ap (λ w. spell (resolved_record w r)) (c.for_tag.ensures.wish r here ∙ ap (wish_for r) (c.of.ensures.wish l ls))
              ∙ ap (λ q. spell (resolved_record (wish_for q (wish_of l)) q)) (spelled_once r q spells.0 qs.0 (spells.1 ∙ sym qs.1));
        });
        whole = put.counted;
        written = put.written;
      };
    }

pub returns-in-None : goal.returns-in-None
returns-in-None c =
    let w = c.write_kept-in-None.ensures in
    record {
      resolved = record {
        text = w.text;
        is_so = kept_resolved c.args.range.now (lang_tag_text c.args.tag) (inr (inr (c.in-None.ensures.none refl))) w.text w.is_so;
        whole = w.whole;
        written = w.written;
      };
    }
