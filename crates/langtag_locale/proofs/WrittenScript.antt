-- The locale to format with is in the script of the tag.
use Rattle.langtag_keyword.proofs.Common.{◌≡◌, ◌≤◌, ◌==◌, ◌||◌, not, ℕ, Bool, true, false, cond, List, [], ◌∷◌, Option, None, Some, length, refl, sym, ap, subst, ◌∙◌, arith, nat_tests, inl, inr, unwrap_or, option_map, option_map_or, Alike, are_alike, fold_text, IsTrue, Extension, Record, IsWellFormed, is_script, with_changed_u}
use Rattle.std.specs.Prelude.{codes, ◌⊎◌}
use Rattle.langtag_scan.proofs.Prelude.{IfSome}
use Rattle.langtag_scan.proofs.Laws.{of_script}
use Rattle.langtag_text.proofs.Alike.{AlikeFields, alike_is}
use Rattle.langtag_text.specs.Fields.{Fields, subtag_of}
use Rattle.langtag_text.specs.RecommendedCase.{capital_text}
use Rattle.langtag_cldr.specs.Definitions.{add_likely, add_likely_subtags, canonical_fields, filled, known, likely_subtags, or_else, or_other}
use Rattle.langtag_cldr.proofs.AlikeFields.{by_options, known-alike, likely_added-alike}
use Rattle.langtag_keyword.proofs.CanonicalKeywords.{alike-back}
use Rattle.langtag_keyword.proofs.Found.{both}
use Rattle.langtag_likely.specs.Maximal.{fields_of, if_read, is_read, maximal_record, put_fields, put_language}
use Rattle.langtag_locale.specs.LocaleForm.{other_region}
use Rattle.langtag_locale.specs.Resolved.{Wish, is_likely_with, likely_script, new_region, resolved_record, resolved_subtags, wish_for}
use Rattle.langtag_locale.specs.ResolvedLaws.{EachResolved, IsInOneScript, full_script}
use Rattle.langtag_posix.proofs.PosixNameRead.{capital-fold}
use Rattle.langtag_locale.proofs.ResolvedRecords.{part_again}
use Rattle.langtag_locale.proofs.ResolvedTexts.{IsAllowed, asked_allowed, each_resolved, known-twice}

-- ---- the maximal form

text_again : (text : List ℕ) → unwrap_or (subtag_of text) [] ≡ text
text_again [] = refl
text_again (b ∷ text) = refl

-- other extensions change nothing
stays : (r : Record) (es : List Extension) → IsInOneScript r (record r { extensions = es })
unfolding maximal_record
stays r es =
    let o = if_read r (add_likely_subtags (fields_of r)) in
    record { primary = primary o; extended = extended o; script = inr (ap (λ s. fold_text (known (codes "Zzzz") (unwrap_or s []))) (script o)) }
  where
    q : Record
    q = record r { extensions = es }

    primary : (o : Option Fields) → (option_map_or (put_fields q) o q).primary ≡ (option_map_or (put_fields r) o r).primary
    primary None = refl
    primary (Some m) = refl

    extended : (o : Option Fields) → (option_map_or (put_fields q) o q).extended ≡ (option_map_or (put_fields r) o r).extended
    extended None = refl
    extended (Some m) = refl

    script : (o : Option Fields) → (option_map_or (put_fields q) o q).script ≡ (option_map_or (put_fields r) o r).script
    script None = refl
    script (Some m) = refl

-- a language other than `und` stays
put_same : (primary : List ℕ) (es : List (List ℕ)) (l : List ℕ) → are_alike (codes "und") primary ≡ false → put_language primary es l ≡ primary
put_same primary [] l other = grind (arith, nat_tests, other)
put_same primary (e ∷ es) l other = refl

max_primary : (r : Record) → are_alike (codes "und") r.primary ≡ false → (maximal_record r).primary ≡ r.primary
unfolding maximal_record
max_primary r other = by_option (if_read r (add_likely_subtags (fields_of r)))
  where
    by_option : (o : Option Fields) → (option_map_or (put_fields r) o r).primary ≡ r.primary
    by_option None = refl
    by_option (Some m) = put_same r.primary r.extended m.language other

max_extended : (r : Record) → (maximal_record r).extended ≡ r.extended
unfolding maximal_record
max_extended r = by_option (if_read r (add_likely_subtags (fields_of r)))
  where
    by_option : (o : Option Fields) → (option_map_or (put_fields r) o r).extended ≡ r.extended
    by_option None = refl
    by_option (Some m) = refl

unread_script : (r : Record) → is_read r.primary r.extended ≡ false → full_script r ≡ known (codes "Zzzz") (unwrap_or r.script [])
unfolding maximal_record
unread_script r unread = rw unread refl

read_script : (r : Record) → is_read r.primary r.extended ≡ true → full_script r ≡ known (codes "Zzzz") (likely_script (fields_of r))
unfolding maximal_record
read_script r read = rw read (by_option (add_likely_subtags (fields_of r)))
  where
    by_option :
        (o : Option Fields) →
        known (codes "Zzzz") (unwrap_or (option_map_or (put_fields r) o r).script []) ≡ known (codes "Zzzz") (option_map_or (λ most. most.script) o (known (codes "Zzzz") (unwrap_or r.script [])))
    by_option None = sym (known-twice (codes "Zzzz") (unwrap_or r.script []))
    by_option (Some m) = ap (known (codes "Zzzz")) (text_again m.script)

likely_script-alike : (a b : Fields) → AlikeFields a b → Alike (likely_script a) (likely_script b)
likely_script-alike a b same =
    by_options (λ o p. Alike (option_map_or (λ (most : Fields). most.script) o a.script) (option_map_or (λ (most : Fields). most.script) p b.script)) same.script (λ v w alike. alike.script) _ _ (likely_added-alike a b same)

-- a script that is there stays
script_kept : (g : Fields) (b : ℕ) (t : List ℕ) → g.script ≡ b ∷ t → likely_script g ≡ g.script
unfolding add_likely_subtags
script_kept g b t is = by_option (add_likely likely_subtags (canonical_fields g))
  where
    by_option : (o : Option Fields) → option_map_or (λ (most : Fields). most.script) (option_map (filled g) o) g.script ≡ g.script
    by_option None = refl
    by_option (Some v) = ap (λ s. or_other s v.script) is ∙ sym is

-- so the script that is written is that of the fields with it
written_again : (f g : Fields) → g.script ≡ known (codes "Zzzz") (likely_script f) → (known (codes "Zzzz") (likely_script f) ≡ []) ⊎ (likely_script g ≡ known (codes "Zzzz") (likely_script f))
written_again f g is = by_text (known (codes "Zzzz") (likely_script f)) is
  where
    by_text : (t : List ℕ) → g.script ≡ t → (t ≡ []) ⊎ (likely_script g ≡ t)
    by_text [] is = inl refl
    by_text (b ∷ t) is = inr (script_kept g b t is ∙ is)

-- ---- a record with a new region

region_there : (region : List ℕ) (old : Option (List ℕ)) → (length region == 0) ≡ false → unwrap_or (or_else (subtag_of (capital_text region)) old) [] ≡ capital_text region
region_there [] old some = absurd cc
region_there (b ∷ region) old some = refl

module _ (r : Record) (region : List ℕ) (is_known : known (codes "ZZ") region ≡ region) (some : (length region == 0) ≡ false) (es : List Extension) where
  -- the record with a script and the new region
  abbrev with_script : Option (List ℕ) → Record
  with_script script = record r { script = script; region = or_else (subtag_of (capital_text region)) r.region; extensions = es }

  new_region-alike : Alike (fields_of (with_script None)).region region
  new_region-alike =
      ap (λ t. fold_text (known (codes "ZZ") t)) (region_there region r.region some) ∙ known-alike (codes "ZZ") (capital_text region) region (capital-fold region) ∙ ap fold_text is_known

  -- a script that stays is that of the maximal form, if it is likely in the new region
  likely_stays : is_read r.primary r.extended ≡ true → is_likely_with (fields_of r) region ≡ true → Alike (full_script (with_script r.script)) (full_script r)
  likely_stays read likely =
      let q : Record = with_script r.script in
      let fields : AlikeFields (fields_of q) (other_region (fields_of r) region) = record { language = refl; script = refl; region = new_region-alike } in
      let same = alike_is (likely_script (fields_of r)) (likely_script (other_region (fields_of r) region)) (both (are_alike (likely_script (fields_of r)) (likely_script (other_region (fields_of r) region))) _ likely).0 in
      ap fold_text (read_script q read) ∙ known-alike (codes "Zzzz") (likely_script (fields_of q)) (likely_script (fields_of r)) (likely_script-alike (fields_of q) (other_region (fields_of r) region) fields ∙ sym same) ∙ ap fold_text (sym (read_script r read))

  -- and any other is written
  other_written : is_read r.primary r.extended ≡ true → (full_script r ≡ []) ⊎ Alike (full_script (with_script (subtag_of (likely_script (fields_of r))))) (full_script r)
  other_written read =
      let q : Record = with_script (subtag_of (likely_script (fields_of r))) in
      elim (written_again (fields_of r) (fields_of q) (ap (known (codes "Zzzz")) (text_again (likely_script (fields_of r))))) [
        | inl none ↦ inl (read_script r read ∙ none)
        | inr same ↦ inr (ap fold_text (read_script q read ∙ ap (known (codes "Zzzz")) same ∙ known-twice (codes "Zzzz") (likely_script (fields_of r)) ∙ sym (read_script r read)))
      ]

  module _ (other : are_alike (codes "und") r.primary ≡ false) where
    in_script : (script : Option (List ℕ)) → ((full_script r ≡ []) ⊎ Alike (full_script (with_script script)) (full_script r)) → IsInOneScript r (with_script script)
    in_script script same = record {
      primary = max_primary (with_script script) other ∙ sym (max_primary r other);
      extended = max_extended (with_script script) ∙ sym (max_extended r);
      script = same;
    }

-- the region of the tag stays, or its language is not `und`
not_und : (r : Record) (w : Wish) → (length (new_region r (wish_for r w).region) == 0) ≡ false → are_alike (codes "und") r.primary ≡ false
not_und r w some = alike-back r.primary (codes "und") (by_test (are_alike r.primary (codes "und")) some)
  where
    by_test : (b : Bool) → (length (new_region r (cond b [] w.region)) == 0) ≡ false → b ≡ false
    by_test false some = refl
    by_test true some = absurd (grind (arith, nat_tests, some))

known_new : (r : Record) (w : Wish) → IsAllowed w → known (codes "ZZ") (new_region r (wish_for r w).region) ≡ new_region r (wish_for r w).region
known_new r w allowed = by_test (are_alike (unwrap_or r.region []) (wish_for r w).region) (asked_allowed r w allowed).is_known
  where
    by_test : (b : Bool) → known (codes "ZZ") (wish_for r w).region ≡ (wish_for r w).region → known (codes "ZZ") (cond b [] (wish_for r w).region) ≡ cond b [] (wish_for r w).region
    by_test true same = refl
    by_test false same = same

none_left : (text : List ℕ) → (length text == 0) ≡ true → text ≡ []
none_left [] none = refl
none_left (b ∷ text) none = absurd (grind (arith, nat_tests, none))

pub script_some : (r : Record) → IsWellFormed r → (s : List ℕ) → r.script ≡ Some s → 1 ≤ length s
script_some r fits s is = by_part r.script fits.script is
  where
    by_part : (o : Option (List ℕ)) → IfSome o (λ s. IsTrue (is_script s)) → o ≡ Some s → 1 ≤ length s
    by_part None fits is = absurd cc
    by_part (Some t) fits is = grind (arith, nat_tests, (of_script t fits).some)

pub one_script : (w : Wish) (r : Record) → IsAllowed w → IsWellFormed r → IsInOneScript r (resolved_record (wish_for r w) r)
unfolding resolved_record
one_script w r allowed fits =
    let region : List ℕ = new_region r (wish_for r w).region in
    let es : List Extension = with_changed_u (resolved_subtags (wish_for r w)) r.extensions in
    let old : subtag_of (unwrap_or r.script []) ≡ r.script = part_again r.script (script_some r fits) in
    by_tests r region (known_new r w allowed) es old (not_und r w) (length region == 0) (is_read r.primary r.extended) (is_likely_with (fields_of r) region) refl refl refl
  where
    by_tests :
        (r : Record) (region : List ℕ) → known (codes "ZZ") region ≡ region → (es : List Extension) → subtag_of (unwrap_or r.script []) ≡ r.script →
        ((length region == 0) ≡ false → are_alike (codes "und") r.primary ≡ false) → (none read likely : Bool) → (length region == 0) ≡ none → is_read r.primary r.extended ≡ read →
        is_likely_with (fields_of r) region ≡ likely →
        IsInOneScript r
        (record r {
          script = subtag_of (cond ((none || not read) || likely) (unwrap_or r.script []) (likely_script (fields_of r)));
          region = or_else (subtag_of (capital_text region)) r.region;
          extensions = es;
        })
    by_tests r region is_known es old other true read likely none reads is =
        let empty = none_left region none in
        subst (λ q. IsInOneScript r q)
        (ap (λ s. record r { script = s; extensions = es }) (sym old) ∙ ap (λ t. record r { script = subtag_of (unwrap_or r.script []); region = or_else (subtag_of (capital_text t)) r.region; extensions = es }) (sym empty))
        (stays r es)
    by_tests r region is_known es old other false false likely some unread is =
        let q : Record = with_script r region is_known some es r.script in
        subst (λ s. IsInOneScript r (with_script r region is_known some es s)) (sym old)
        (in_script r region is_known some es (other some) r.script (inr (ap fold_text (unread_script q unread ∙ sym (unread_script r unread)))))
    by_tests r region is_known es old other false true true some read is =
        subst (λ s. IsInOneScript r (with_script r region is_known some es s)) (sym old)
        (in_script r region is_known some es (other some) r.script (inr (likely_stays r region is_known some es read is)))
    by_tests r region is_known es old other false true false some read is =
        in_script r region is_known some es (other some) (subtag_of (likely_script (fields_of r))) (other_written r region is_known some es read)

own_script : (r : Record) → IsWellFormed r → IsInOneScript r r
own_script r fits = record { primary = refl; extended = refl; script = inr refl }

pub in_one_script : EachResolved IsInOneScript
in_one_script = each_resolved IsInOneScript own_script one_script
