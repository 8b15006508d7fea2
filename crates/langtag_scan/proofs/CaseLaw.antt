-- The case of letters changes no class, no segment and no stage; so it changes no kind of tag, no part and no end.
use Rattle.langtag_scan.proofs.Prelude.{◌≡◌, ℕ, Bool, eqb, List, [], ◌∷◌, ◌++◌, length, map, Option, refl, sym, ap, ◌∙◌, arith, IsTrue, list_all, flat_map, option_map_or, nat_tests, length-map, map-append, common_steps, option_map}
use Rattle.langtag_scan.specs.Grammar.{fold_byte, fold_text, Alike, are_alike, fold_extension, fold_private_use, fold_record, AlikeRecords, is_letter, is_digit, is_alphanumeric, is_primary, is_extended, is_script, is_region, is_variant, is_extension_subtag, is_private_subtag, is_mark, is_singleton, ends_of, Extension, PrivateUse, Record, IsWellFormed, extension_flat, one_flat, private_part_flat, flat, spell, EachRecord, Stage, Start, is_one, classes_of, next_stage, join, segments, subtags, IsNormal, IsPrivate, IsIrregular, IsIrregularAt, IsTag, are_alike-decides}
use Rattle.langtag_scan.specs.AlikeRecords.{IsSpelledAlike}
use Rattle.langtag_scan.proofs.Decoding.{Read, nothing, put, decode, decode_complete}
use Rattle.langtag_scan.proofs.NormalTexts.{normal_from_runs, runs_from_normal, spelled_segments, runs_private, runs_from_private, private_from_runs}
use Rattle.langtag_scan.proofs.StageLaws.{runs}

-- ---- bytes

-- the fold changes no class of bytes
pub is_letter-fold : (b : ℕ) → is_letter (fold_byte b) ≡ is_letter b
unfolding fold_byte is_letter
is_letter-fold b = grind (arith, nat_tests)

pub is_digit-fold : (b : ℕ) → is_digit (fold_byte b) ≡ is_digit b
unfolding fold_byte is_digit
is_digit-fold b = grind (arith, nat_tests)

pub is_mark-fold : (b : ℕ) → is_mark (fold_byte b) ≡ is_mark b
unfolding fold_byte is_mark
is_mark-fold b = grind (arith, nat_tests)

pub fold_byte-twice : (b : ℕ) → fold_byte (fold_byte b) ≡ fold_byte b
unfolding fold_byte
fold_byte-twice b = grind (arith, nat_tests)

module _ {X : Type 0} (f : X → X) (twice : (x : X) → f (f x) ≡ f x) where
  pub map-twice : (xs : List X) → map f (map f xs) ≡ map f xs
  map-twice [] = refl
  map-twice (x ∷ xs) = ap (λ y. y ∷ map f (map f xs)) (twice x) ∙ ap (λ ys. f x ∷ ys) (map-twice xs)

pub fold_text-twice : (s : List ℕ) → fold_text (fold_text s) ≡ fold_text s
fold_text-twice = map-twice fold_byte fold_byte-twice

pub hyphen-fold : (b : ℕ) → eqb (fold_byte b) 45 ≡ eqb b 45
unfolding fold_byte
hyphen-fold b = grind (arith, nat_tests)

is_alphanumeric-fold : (b : ℕ) → is_alphanumeric (fold_byte b) ≡ is_alphanumeric b
is_alphanumeric-fold b = rw (is_letter-fold b, is_digit-fold b) refl

-- ---- the classes of subtags

-- the fold of a text has as many bytes
pub length-fold : (s : List ℕ) → length (fold_text s) ≡ length s
length-fold s = length-map s fold_byte

-- a test of bytes that the fold does not change, of each byte, and of a subtag of one
module _ (p : ℕ → Bool) (same : (b : ℕ) → p (fold_byte b) ≡ p b) where
  pub all-fold : (s : List ℕ) → list_all p (fold_text s) ≡ list_all p s
  all-fold [] = refl
  all-fold (b ∷ s) = rw (same b, all-fold s) refl

  is_one-fold : (s : List ℕ) → is_one p (fold_text s) ≡ is_one p s
  is_one-fold s = grind (arith, common_steps)

-- a subtag and its fold are of the same classes
pub classes-fold : (s : List ℕ) → classes_of (fold_text s) ≡ classes_of s
unfolding is_primary is_extended is_script is_region is_variant is_extension_subtag is_private_subtag is_singleton
classes-fold s = grind (arith, common_steps, all-fold, is_letter-fold, is_digit-fold, is_alphanumeric-fold, length-fold, is_one-fold, is_mark-fold)

-- ---- stages

-- folded subtags may follow where those that they fold may
pub runs-fold : (stage : Stage) (ss : List (List ℕ)) → runs stage (map fold_text ss) ≡ runs stage ss
unfolding runs
runs-fold stage [] = refl
runs-fold stage (s ∷ ss) =
    let rest : (after : Stage) → runs after (map fold_text ss) ≡ runs after ss = λ after. runs-fold after ss in
    grind (arith, common_steps, classes-fold s, rest)

-- after a mark likewise
pub runs_private-fold : (ss : List (List ℕ)) → runs_private (map fold_text ss) ≡ runs_private ss
runs_private-fold ss = grind (arith, common_steps, is_one-fold, is_mark-fold, runs-fold)

-- ---- hyphens

-- the segments of a folded text are those of the text, folded
pub segments-fold : (t : List ℕ) → segments (fold_text t) ≡ map fold_text (segments t)
segments-fold [] = refl
segments-fold (b ∷ t) = grind (arith, common_steps, hyphen-fold b, segments-fold t)

-- and a join of folded subtags is the join, folded
pub join-fold : (ss : List (List ℕ)) → join (map fold_text ss) ≡ fold_text (join ss)
unfolding fold_byte
join-fold [] = refl
join-fold (s ∷ []) = refl
join-fold (s ∷ u ∷ us) = ap (λ (t : List ℕ). fold_text s ++ 45 ∷ t) (join-fold (u ∷ us)) ∙ sym (map-append fold_byte s (45 ∷ join (u ∷ us)))

-- ---- records

-- the subtags of a folded script or region are those of the part, folded
pub one_flat-fold : (o : Option (List ℕ)) → one_flat (option_map fold_text o) ≡ map fold_text (one_flat o)
one_flat-fold o = grind (arith, common_steps)

-- those of the extensions likewise
pub fold_extension-twice : (e : Extension) → fold_extension (fold_extension e) ≡ fold_extension e
fold_extension-twice e = rw (fold_byte-twice e.singleton, map-twice fold_text fold_text-twice e.subtags) refl

pub extensions-fold : (es : List Extension) → flat_map extension_flat (map fold_extension es) ≡ map fold_text (flat_map extension_flat es)
extensions-fold [] = refl
extensions-fold (e ∷ es) = rw (extensions-fold es) (sym (map-append fold_text (extension_flat e) (flat_map extension_flat es)))

-- those of the private use part
pub private_part-fold : (o : Option PrivateUse) → private_part_flat (option_map fold_private_use o) ≡ map fold_text (private_part_flat o)
private_part-fold o = grind (arith, common_steps)

-- so a folded record spells the folded text
spell-fold : (r : Record) → spell (fold_record r) ≡ fold_text (spell r)
spell-fold r = grind (arith, common_steps, one_flat-fold, extensions-fold, private_part-fold, map-append, join-fold (flat r))

-- alike records spell alike texts
pub spelled_alike : (r q : Record) → AlikeRecords r q → Alike (spell r) (spell q)
spelled_alike r q alike = sym (spell-fold r) ∙ ap spell alike ∙ spell-fold q

-- what is decoded of folded subtags is folded
abbrev fold_read : Read → Read
fold_read b = record { after = map fold_text b.after; parts = fold_record b.parts }

put-fold : (stage : Stage) (s : List ℕ) (b : Read) → put stage (fold_text s) (fold_read b) ≡ fold_read (put stage s b)
unfolding fold_byte
put-fold stage s b = grind (arith, common_steps)

decode-fold : (ss : List (List ℕ)) (stage : Stage) → decode stage (map fold_text ss) ≡ fold_read (decode stage ss)
unfolding decode
decode-fold [] stage = refl
decode-fold (s ∷ ss) stage = rw (classes-fold s) (by_next (next_stage stage s) (decode-fold ss))
  where
    by_next :
        (o : Option Stage) → ((after : Stage) → decode after (map fold_text ss) ≡ fold_read (decode after ss)) →
        option_map_or (λ after. put after (fold_text s) (decode after (map fold_text ss))) o nothing
        ≡ fold_read (option_map_or (λ after. put after s (decode after ss)) o nothing)
    by_next o rest = grind (arith, common_steps, put-fold)

-- so a folded record is that of the folded text
record-fold : (r : Record) → IsWellFormed r → fold_record r ≡ (decode Start (segments (fold_text (spell r)))).parts
record-fold r fits = rw (segments-fold (spell r), spelled_segments r fits, decode-fold (flat r) Start, (decode_complete r fits).is) refl

-- a join of folded subtags is as long
length-join-fold : (s : List ℕ) (ss : List (List ℕ)) → length (join (fold_text s ∷ map fold_text ss)) ≡ length (join (s ∷ ss))
length-join-fold s ss = ap length (join-fold (s ∷ ss)) ∙ length-fold (join (s ∷ ss))

-- the parts of a folded record end where those of the record do
ends-fold : (r : Record) → ends_of (fold_record r) ≡ ends_of r
ends-fold r = simp (one_flat-fold, extensions-fold, private_part-fold, ← map-append, length-join-fold)

-- ---- the law

-- a test of lists of subtags that the fold does not change answers alike of the segments of alike texts
module _ (test : List (List ℕ) → Bool) (same : (ss : List (List ℕ)) → test (map fold_text ss) ≡ test ss) where
  pub segments_test-fold : (t : List ℕ) → test (segments (fold_text t)) ≡ test (segments t)
  segments_test-fold t = ap test (segments-fold t) ∙ same (segments t)

  alike_test : (t u : List ℕ) → Alike t u → test (segments u) ≡ test (segments t)
  alike_test t u alike = sym (segments_test-fold u) ∙ ap (λ v. test (segments v)) (sym alike) ∙ segments_test-fold t

-- a text that is alike a normal one is normal
pub alike_normal : (t u : List ℕ) → Alike t u → IsNormal t → IsNormal u
alike_normal t u alike normal = normal_from_runs u (alike_test (runs Start) (runs-fold Start) t u alike ∙ runs_from_normal t normal)

-- a text that is alike an irregular one is the same irregular one
pub alike_irregular : (k : ℕ) (t u : List ℕ) → Alike t u → IsIrregularAt k t → IsIrregularAt k u
unfolding IsIrregularAt
alike_irregular k t u alike (name, at, same) = (name, at, same ∙ alike)

-- a text that is alike a private one is private
pub alike_private : (t u : List ℕ) → Alike t u → IsPrivate t → IsPrivate u
alike_private t u alike private = private_from_runs u (alike_test runs_private runs_private-fold t u alike ∙ runs_from_private t private)

-- a text that is alike a tag is a tag
pub alike_tag : (t u : List ℕ) → Alike t u → IsTag t → IsTag u
unfolding IsTag IsIrregular
alike_tag t u alike h = grind (arith, common_steps, alike_normal, alike_private, alike_irregular)

-- a text that is alike a normal one has an alike record, with the same ends
pub alike_parts : (t u : List ℕ) → Alike t u → EachRecord t (λ r. IsSpelledAlike r u)
unfolding IsNormal
alike_parts t u alike r (fits, spells) =
    let other = alike_normal t u alike (r, (fits, spells)) in
    let q : Record = other.0 in
    let texts : Alike (spell r) (spell q) = rw (spells, other.1.1) alike in
    let same : AlikeRecords r q =
    record-fold r fits ∙ ap (λ v. (decode Start (segments v)).parts) texts ∙ sym (record-fold q other.1.0) in
    (q, other.1, same, sym (ends-fold r) ∙ ap ends_of same ∙ ends-fold q)

-- ---- texts that are equal, ignoring case, belong to the same classes of subtags, and their subtags pass the same tests

alike-classes : (s t : List ℕ) → IsTrue (are_alike s t) → classes_of s ≡ classes_of t
alike-classes s t alike = sym (classes-fold s) ∙ ap classes_of ((are_alike-decides s t).0 alike) ∙ classes-fold t

-- ---- a text that is alike a subtag of a class is one, too

pub alike_primary : (s t : List ℕ) → IsTrue (are_alike s t) → IsTrue (is_primary s) → IsTrue (is_primary t)
alike_primary s t alike fits = sym (ap (λ c. c.primary) (alike-classes s t alike)) ∙ fits

pub alike_extended : (s t : List ℕ) → IsTrue (are_alike s t) → IsTrue (is_extended s) → IsTrue (is_extended t)
alike_extended s t alike fits = sym (ap (λ c. c.extended) (alike-classes s t alike)) ∙ fits

pub alike_script : (s t : List ℕ) → IsTrue (are_alike s t) → IsTrue (is_script s) → IsTrue (is_script t)
alike_script s t alike fits = sym (ap (λ c. c.script) (alike-classes s t alike)) ∙ fits

pub alike_region : (s t : List ℕ) → IsTrue (are_alike s t) → IsTrue (is_region s) → IsTrue (is_region t)
alike_region s t alike fits = sym (ap (λ c. c.region) (alike-classes s t alike)) ∙ fits

pub alike_variant : (s t : List ℕ) → IsTrue (are_alike s t) → IsTrue (is_variant s) → IsTrue (is_variant t)
alike_variant s t alike fits = sym (ap (λ c. c.variant) (alike-classes s t alike)) ∙ fits

pub alike_extension_subtag : (s t : List ℕ) → IsTrue (are_alike s t) → IsTrue (is_extension_subtag s) → IsTrue (is_extension_subtag t)
alike_extension_subtag s t alike fits = sym (ap (λ c. c.extension_subtag) (alike-classes s t alike)) ∙ fits

pub alike_private_subtag : (s t : List ℕ) → IsTrue (are_alike s t) → IsTrue (is_private_subtag s) → IsTrue (is_private_subtag t)
alike_private_subtag s t alike fits = sym (ap (λ c. c.private_subtag) (alike-classes s t alike)) ∙ fits

-- ---- lists of subtags

-- a test of subtags that the fold does not change, of each subtag in a list
pub each_test-fold : (p : List ℕ → Bool) → ((s : List ℕ) → p (fold_text s) ≡ p s) → (ss : List (List ℕ)) → list_all p (map fold_text ss) ≡ list_all p ss
each_test-fold p same [] = refl
each_test-fold p same (s ∷ ss) = rw (same s, each_test-fold p same ss) refl

pub subtags-fold : (t : List ℕ) → subtags (fold_text t) ≡ map fold_text (subtags t)
subtags-fold [] = refl
subtags-fold (b ∷ t) = segments-fold (b ∷ t)

-- a test of lists of subtags that the fold does not change has the same result for the subtags of alike texts
module _ (test : List (List ℕ) → Bool) (same : (ss : List (List ℕ)) → test (map fold_text ss) ≡ test ss) where
  pub subtags_test-fold : (t : List ℕ) → test (subtags (fold_text t)) ≡ test (subtags t)
  subtags_test-fold t = ap test (subtags-fold t) ∙ same (subtags t)

  pub alike_subtags_test : (t u : List ℕ) → IsTrue (are_alike t u) → IsTrue (test (subtags t)) → IsTrue (test (subtags u))
  alike_subtags_test t u alike pass = grind (arith, nat_tests, subtags_test-fold u, are_alike-decides t u, subtags_test-fold t)
