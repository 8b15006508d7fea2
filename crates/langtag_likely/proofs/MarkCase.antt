-- Alike records are alike as they are read.
use Rattle.langtag_scan.proofs.Prelude.{◌≡◌, ℕ, List, [], ◌∷◌, map, Option, None, Some, option_map, unwrap_or, refl, sym, ap, ◌∙◌}
use Rattle.langtag_scan.specs.Grammar.{AlikeRecords, Record, fold_record, fold_text}
use Rattle.langtag_text.specs.Fields.{subtag_of}
use Rattle.langtag_cldr.specs.Definitions.{or_other}
use Rattle.langtag_cldr.proofs.MarkFolds.{marked_region-fold}
use Rattle.langtag_likely.specs.Marked.{as_read, mark_after, mark_of, with_mark}

mark-fold : (primary : List ℕ) (extended : List (List ℕ)) → mark_after (fold_text primary) (map fold_text extended) ≡ fold_text (mark_after primary extended)
mark-fold primary [] = refl
mark-fold primary (first ∷ others) = marked_region-fold primary (first ∷ others)

region-fold :
    (region : Option (List ℕ)) (b : ℕ) (mark : List ℕ) →
    subtag_of (or_other (unwrap_or (option_map fold_text region) []) (fold_text (b ∷ mark))) ≡ option_map fold_text (subtag_of (or_other (unwrap_or region []) (b ∷ mark)))
region-fold None b mark = refl
region-fold (Some []) b mark = refl
region-fold (Some (c ∷ region)) b mark = refl

with_mark-fold : (r : Record) (mark : List ℕ) → with_mark (fold_record r) (fold_text mark) ≡ fold_record (with_mark r mark)
with_mark-fold r [] = refl
with_mark-fold r (b ∷ mark) = ap (λ region. record (fold_record r) { extended = []; region = region }) (region-fold r.region b mark)

read-fold : (r : Record) → as_read (fold_record r) ≡ fold_record (as_read r)
read-fold r = ap (with_mark (fold_record r)) (mark-fold r.primary r.extended) ∙ with_mark-fold r (mark_of r)

pub read-alike : (r q : Record) → AlikeRecords r q → AlikeRecords (as_read r) (as_read q)
read-alike r q alike = sym (read-fold r) ∙ ap as_read alike ∙ read-fold q
