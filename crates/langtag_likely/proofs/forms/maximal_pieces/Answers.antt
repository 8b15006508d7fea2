use Rattle.langtag_scan.proofs.Prelude.{◌≤◌, ◌+◌, length, flat_map, refl, sym, ap, subst, ◌∙◌, arith, option_map_or}
use Rattle.langtag_scan.specs.Grammar.{spell, IsNormal}
use Rattle.langtag_likely.specs.Maximal.{maximal_record, put_fields}
use Rattle.langtag.proofs.FormLaws.{kept_form, record_form}
use Rattle.langtag_likely.proofs.forms.maximal_pieces.Goals as goal

pub returns-in-Some : goal.returns-in-Some
unfolding IsNormal maximal_record
returns-in-Some c =
    let (r, spells) = c.in-Some.ensures.kind.0 refl in
    let same = spells.1 ∙ sym c.in-Some.ensures.same_text in
    record {
      form = record_form maximal_record _ _ r spells
          (c.changed.ensures.whole r (spells.0, same)
          ∙ ap (λ o. spell (option_map_or (put_fields r) o r)) (c.most_fields.ensures r (spells.0, same)));
      short = subst (λ t. length (flat_map (λ piece. piece.now) c.changed.result) ≤ length t + 17) c.in-Some.ensures.same_text (c.changed.ensures.short r (spells.0, same));
    }

pub returns-in-None : goal.returns-in-None
returns-in-None c =
    let same = c.whole.ensures ∙ c.as_bytes.ensures in
    record { form = kept_form maximal_record _ _ (λ normal. let no = c.in-None.ensures.kind.1 normal in absurd cc) same; short = omega (arith, ap length same) }
