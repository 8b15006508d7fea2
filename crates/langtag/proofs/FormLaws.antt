-- What a tag becomes if its record becomes another record: one form, which is a tag, and what is written of it.
use Rattle.langtag_scan.proofs.Prelude.{◌≡◌, ℕ, List, inl, inr, refl, sym, ap, subst, ◌∙◌, length, append-nil, arith, drop_all, common_steps}
use Rattle.langtag_scan.specs.Grammar.{Record, Spells, IsWellFormed, spell, IsNormal, IsTag, AlikeRecords, Alike, fold_text}
use Rattle.langtag_scan.proofs.Laws.{alike_normal, alike_parts, spelled_alike, spelled_once, normal_or_not}
use Rattle.langtag.specs.Form.{IsAlikeForm, IsForm}
use Rattle.langtag_text.specs.Writes.{Writes}

-- what is written is also what follows from it
pub rewritten : {P Q : List ℕ → Type 0} (before after : List ℕ) (len : ℕ) → ((text : List ℕ) → P text → Q text) → Writes P before after len → Writes Q before after len
rewritten before after len becomes w = record { text = w.text; is_so = becomes w.text w.is_so; whole = w.whole; written = w.written; untouched = w.untouched }

module _ (form_of : Record → Record) where
  pub kept_form : (old new : List ℕ) → (IsNormal old → ⊥) → new ≡ old → IsForm form_of old new
  unfolding IsNormal
  kept_form old new other same = record { kept = λ _. same; parts = λ r spells. absurd (other (r, spells)) }

  pub record_form : (old new : List ℕ) (r : Record) → Spells r old → new ≡ spell (form_of r) → IsForm form_of old new
  unfolding IsNormal
  record_form old new r spells same = grind (arith, spelled_once r)

  -- there is one
  pub one_form : (old new other : List ℕ) → IsForm form_of old new → IsForm form_of old other → new ≡ other
  unfolding IsNormal
  one_form old new other a b = grind (arith, normal_or_not old)

  -- and it is a tag
  pub form_is_tag : ((r : Record) → IsWellFormed r → IsWellFormed (form_of r)) → (old new : List ℕ) → IsTag old → IsForm form_of old new → IsTag new
  unfolding IsTag IsNormal
  form_is_tag well old new tag is = elim (normal_or_not old) [
    | inl normal ↦ inl (form_of normal.0, (well normal.0 normal.1.0, sym (is.parts normal.0 normal.1)))
    | inr not_normal ↦ subst IsTag (sym (is.kept not_normal)) tag
  ]

  -- ---- what is written

  pub kept_written : (old text before after : List ℕ) (len : ℕ) → (IsNormal old → ⊥) → text ≡ old → Writes (λ new. new ≡ text) before after len → Writes (IsForm form_of old) before after len
  kept_written old text before after len other same w = rewritten before after len (λ new is. kept_form old new other (is ∙ same)) w

  pub record_written :
      (old text before after : List ℕ) (len : ℕ) (r : Record) → Spells r old → text ≡ spell (form_of r) → Writes (λ new. new ≡ text) before after len → Writes (IsForm form_of old) before after len
  record_written old text before after len r spells same w = rewritten before after len (λ new is. record_form old new r spells (is ∙ same)) w

  -- what is written twice, the second time with just the room for it
  pub written_whole :
      (old first one before after : List ℕ) (n len : ℕ) → Writes (IsForm form_of old) first one n → Writes (IsForm form_of old) before after len → length before ≡ n →
      (length after ≡ n) × IsForm form_of old after
  written_whole old first one before after n len counted w room = grind (arith, common_steps, one_form, drop_all, append-nil)

-- ---- one form after another

module _ (first second both : Record → Record) (well : (r : Record) → IsWellFormed r → IsWellFormed (first r)) where
  pub composed :
      ((r : Record) → IsWellFormed r → second (first r) ≡ both r) → (old mid new : List ℕ) → IsForm first old mid → IsForm both old new → IsForm second mid new
  unfolding IsNormal
  composed law old mid new a b = elim (normal_or_not old) [
    | inl (r, spells) ↦
        record_form second mid new (first r) (well r spells.0, sym (a.parts r spells)) (b.parts r spells ∙ ap spell (sym (law r spells.0)))
    | inr not_normal ↦
        let same : mid ≡ old = a.kept not_normal in
        kept_form second mid new (λ normal. not_normal (subst IsNormal same normal)) (b.kept not_normal ∙ sym same)
  ]

  pub undone :
      ((r : Record) → IsWellFormed r → AlikeRecords (both r) (second (first r))) → (old mid form new : List ℕ) →
      IsForm first old mid → IsForm second mid form → IsForm both old new → Alike new form
  unfolding IsNormal
  undone law old mid form new a b c = elim (normal_or_not old) [
    | inl (r, spells) ↦
        ap fold_text (c.parts r spells) ∙ spelled_alike (both r) (second (first r)) (law r spells.0)
        ∙ ap fold_text (sym (b.parts (first r) (well r spells.0, sym (a.parts r spells))))
    | inr not_normal ↦
        let same : mid ≡ old = a.kept not_normal in
        ap fold_text (c.kept not_normal ∙ sym same ∙ sym (b.kept (λ normal. not_normal (subst IsNormal same normal))))
  ]

module _ (form_of : Record → Record) where
  pub alike_forms : ((r q : Record) → AlikeRecords r q → AlikeRecords (form_of r) (form_of q)) → (old new : List ℕ) → IsForm form_of old new → IsAlikeForm (IsForm form_of) old new
  unfolding IsNormal
  alike_forms law old new a = λ other form alike b. elim (normal_or_not old) [
    | inl (r, spells) ↦
        let q = alike_parts old other alike r spells in
        ap fold_text (a.parts r spells) ∙ spelled_alike (form_of r) (form_of q.0) (law r q.0 q.2) ∙ ap fold_text (sym (b.parts q.0 q.1))
    | inr not_normal ↦
        ap fold_text (a.kept not_normal) ∙ alike ∙ ap fold_text (sym (b.kept (λ normal. not_normal (alike_normal other old (sym alike) normal))))
  ]

  -- there is a form
  pub some_form : (old : List ℕ) → (new : List ℕ) × IsForm form_of old new
  unfolding IsNormal
  some_form old = elim (normal_or_not old) [
    | inl (r, spells) ↦ (spell (form_of r), record_form form_of old (spell (form_of r)) r spells refl)
    | inr not_normal ↦ (old, kept_form form_of old old not_normal refl)
  ]
