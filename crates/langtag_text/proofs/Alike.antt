-- Texts and fields that are equal but for case.
use Rattle.std.proofs.Common.{◌≡◌, ℕ, true, List, length, ap, sym, ◌∙◌, bytes_eq, arith}
use Rattle.langtag_scan.proofs.CaseLaw.{length-fold}
use Rattle.langtag_scan.specs.Grammar.{Alike, are_alike, fold_text, are_alike-decides}
use Rattle.langtag_text.specs.Fields.{Fields}
use Rattle.std.proofs.lemmas.Grind.{common_steps}

pub record AlikeFields (a b : Fields) : Type 0 where
  pub language : Alike a.language b.language
  pub script : Alike a.script b.script
  pub region : Alike a.region b.region

pub alike_is : (a b : List ℕ) → are_alike a b ≡ true → Alike a b
alike_is a b is = (are_alike-decides a b).0 is

pub alike_length : (a b : List ℕ) → are_alike a b ≡ true → length a ≡ length b
alike_length a b alike = sym (length-fold a) ∙ ap length (alike_is a b alike) ∙ length-fold b

pub same_fields : (f g : Fields) → f.language ≡ g.language → f.script ≡ g.script → f.region ≡ g.region → f ≡ g
same_fields f g language script region = grind (arith, common_steps)

-- ---- a test answers alike of texts that are alike

pub are_alike-right : (a b c : List ℕ) → Alike b c → are_alike a b ≡ are_alike a c
are_alike-right a b c h = ap (bytes_eq (fold_text a)) h

pub are_alike-left : (a b c : List ℕ) → Alike a b → are_alike a c ≡ are_alike b c
are_alike-left a b c h = ap (λ t. bytes_eq t (fold_text c)) h
