-- Texts without extensions and private use.
use Rattle.langtag_scan.proofs.Prelude.{◌≡◌, ℕ, zero, suc, true, false, cond, List, [], ◌∷◌, ◌++◌, refl, ap, sym, subst, ◌∙◌, arith, ◌+◌, ◌-◌, ◌<◌, ◌≤◌, ◌==◌, ◌&&◌, not, length, get_or, take, drop, before_first, list_all, nat_tests, common_steps, and_parts, take_while-cons}
use Rattle.langtag_scan.specs.Grammar.{Alike, are_alike, fold_text, is_hyphen, is_single}
use Rattle.langtag_scan.proofs.CaseLaw.{length-fold}
use Rattle.langtag_text.proofs.Alike.{alike_is}
use Rattle.langtag_range.specs.Definitions.{basic_text, begins_with_wildcard, ends_subtag, hyphened, is_separator}
use Rattle.langtag_range.proofs.AlikeTexts.{before_first-fold, mark-fold}
use Rattle.langtag_cldr.specs.Definitions.{BeginsPlain, base_text, begins_with_base, is_plain_byte}
use Rattle.langtag_cldr.proofs.CommonTexts.{read_byte, read_nothing, rest_of, some_length}

-- ---- byte by byte

pub hyphen_off : (b : ℕ) (text : List ℕ) → before_first is_hyphen (b ∷ text) ≡ cond (not (is_hyphen b)) (b ∷ before_first is_hyphen text) []
hyphen_off b text = take_while-cons (λ b. not (is_hyphen b)) b text

pub base_byte : (b : ℕ) (text : List ℕ) → (b == 45) ≡ false → base_text (b ∷ text) ≡ b ∷ base_text text
base_byte b text is = rw is refl

pub base_within : (text : List ℕ) → length (base_text text) ≤ length text
base_within [] = omega arith
base_within (b ∷ text) = grind (arith, base_within text)

-- the first subtag stays
pub first_stays : (text : List ℕ) → before_first is_hyphen (base_text text) ≡ before_first is_hyphen text
first_stays [] = refl
first_stays (b ∷ text) = grind (arith, nat_tests, hyphen_off b text, hyphen_off b (base_text text), first_stays text)

pub hyphen-fold : (text : List ℕ) → before_first is_hyphen (fold_text text) ≡ fold_text (before_first is_hyphen text)
hyphen-fold text = before_first-fold is_hyphen (mark-fold 45 (omega arith)) text

pub base-fold : (text : List ℕ) → base_text (fold_text text) ≡ fold_text (base_text text)
base-fold [] = refl
base-fold (b ∷ text) = grind (arith, common_steps, mark-fold 45 (omega arith) b, hyphen-fold text, length-fold (before_first is_hyphen text), base-fold text)

pub base-alike : (a b : List ℕ) → Alike a b → Alike (base_text a) (base_text b)
base-alike a b alike = sym (base-fold a) ∙ ap base_text alike ∙ base-fold b

-- ---- a range as it is read

pub ends_read : (left : List ℕ) → BeginsPlain left → ends_subtag (basic_text left) ≡ ends_subtag (hyphened left)
ends_read [] plain = ap ends_subtag read_nothing
ends_read (a ∷ left) plain = ap ends_subtag (read_byte a left plain)

-- a range without each "-*" at its start
pub ends_at : (range left : List ℕ) → basic_text left ≡ basic_text range → BeginsPlain left → 1 ≤ length left → is_separator (get_or left 0 0) ≡ ends_subtag (basic_text range)
ends_at range [] same plain some = absurd (omega (arith, some))
ends_at range (b ∷ left) same plain some = grind (arith, nat_tests, ap ends_subtag same, read_byte b left plain)

pub ends_none : (range left : List ℕ) → basic_text left ≡ basic_text range → length left < 1 → true ≡ ends_subtag (basic_text range)
ends_none range [] same none = ap ends_subtag (sym read_nothing ∙ same)
ends_none range (b ∷ left) same none = absurd (omega (arith, none))

single_first : (b : ℕ) (text : List ℕ) → is_single (before_first is_hyphen (b ∷ text)) ≡ (not (b == 45) && ends_subtag text)
single_first b [] = grind (arith, nat_tests, hyphen_off b [])
single_first b (c ∷ text) = grind (arith, nat_tests, hyphen_off b (c ∷ text), hyphen_off c text)

pub none_single : (range : List ℕ) → length range < 1 → is_single (before_first is_hyphen (basic_text range)) ≡ false
none_single [] none = rw read_nothing refl
none_single (b ∷ range) none = absurd (omega (arith, none))

pub single_read :
    (range : List ℕ) → 1 ≤ length range → BeginsPlain range →
    is_single (before_first is_hyphen (basic_text range)) ≡ (not (is_separator (get_or range 0 0)) && ends_subtag (basic_text (take (length range - 1) (drop 1 range))))
single_read [] some plain = absurd (omega (arith, some))
single_read (b ∷ range) some plain = grind (arith, nat_tests, rest_of 1 (b ∷ range), read_byte b range plain, single_first)

pub none_baseless : (range : List ℕ) → length range < 1 → (length (base_text (basic_text range)) == 0) ≡ true
none_baseless [] none = rw read_nothing refl
none_baseless (b ∷ range) none = absurd (omega (arith, none))

pub baseless_read :
    (range : List ℕ) → 1 ≤ length range → BeginsPlain range →
    (length (base_text (basic_text range)) == 0) ≡ (is_separator (get_or range 0 0) && is_single (before_first is_hyphen (basic_text (take (length range - 1) (drop 1 range)))))
baseless_read [] some plain = absurd (omega (arith, some))
baseless_read (b ∷ range) some plain = grind (arith, nat_tests, rest_of 1 (b ∷ range), read_byte b range plain)

-- a text with neither "_" nor "*" is read as it stands
pub plain_read_whole : (text : List ℕ) → list_all is_plain_byte text ≡ true → basic_text text ≡ text
plain_read_whole [] all = read_nothing
plain_read_whole (b ∷ []) all = grind (arith, nat_tests, common_steps, and_parts, read_byte b [], read_nothing)
plain_read_whole (b ∷ c ∷ text) all = grind (arith, nat_tests, common_steps, and_parts, read_byte b (c ∷ text), plain_read_whole (c ∷ text))

-- ---- the bytes before extensions and private use

pub base_step :
    (k : ℕ) (text : List ℕ) → (length (base_text (drop k text)) == 0) ≡ false → take k text ++ base_text (drop k text) ≡ take (suc k) text ++ base_text (drop (suc k) text)
base_step zero [] some = refl
base_step (suc k) [] some = refl
base_step zero (b ∷ text) some = grind (arith, nat_tests)
base_step (suc k) (b ∷ text) some = ap (λ t. b ∷ t) (base_step k text some)

base_inside : (k : ℕ) (text : List ℕ) → (length (base_text (drop k text)) == 0) ≡ false → k < length text
base_inside k [] some = grind (arith, nat_tests, common_steps)
base_inside zero (b ∷ text) some = omega arith
base_inside (suc k) (b ∷ text) some = let inside = base_inside k text some in omega (arith, inside)

-- a text without "*"
pub plain_begins : (text : List ℕ) → list_all is_plain_byte text ≡ true → BeginsPlain text
plain_begins [] all = refl
plain_begins (a ∷ []) all = refl
plain_begins (a ∷ b ∷ text) all = grind (arith, nat_tests, and_parts)

pub plain_drop : (k : ℕ) (text : List ℕ) → list_all is_plain_byte text ≡ true → list_all is_plain_byte (drop k text) ≡ true
plain_drop zero text all = all
plain_drop (suc k) [] all = refl
plain_drop (suc k) (b ∷ text) all = plain_drop k text (and_parts (is_plain_byte b) (list_all is_plain_byte text) all).1

module _ (k : ℕ) (text : List ℕ) (plain : list_all is_plain_byte text ≡ true) where
  pub plain_rest : BeginsPlain (take (length text - k) (drop k text))
  plain_rest = ap begins_with_wildcard (ap hyphened (rest_of k text)) ∙ plain_begins (drop k text) (plain_drop k text plain)

  rest_read : basic_text (take (length text - k) (drop k text)) ≡ drop k text
  rest_read = ap basic_text (rest_of k text) ∙ plain_read_whole (drop k text) (plain_drop k text plain)

  empty_read : (length (base_text (basic_text (take (length text - k) (drop k text)))) == 0) ≡ (length (base_text (drop k text)) == 0)
  empty_read = ap (λ t. length (base_text t) == 0) rest_read

  -- a byte that is no beginning of extensions or private use
  pub base_goes :
      (length (base_text (basic_text (take (length text - k) (drop k text)))) == 0) ≡ false →
      (k < length text) × (take k text ++ base_text (drop k text) ≡ take (k + 1) text ++ base_text (drop (k + 1) text))
  base_goes some =
      let is = sym empty_read ∙ some in
      let next : suc k ≡ k + 1 = omega arith in
      (base_inside k text is, subst (λ n. take k text ++ base_text (drop k text) ≡ take n text ++ base_text (drop n text)) next (base_step k text is))

  pub base_ends : (length (base_text (basic_text (take (length text - k) (drop k text)))) == 0) ≡ true → take k text ≡ take k text ++ base_text (drop k text)
  base_ends none = let is = sym empty_read ∙ none in grind (arith, nat_tests, common_steps)

-- ---- a range that begins with a text without extensions and private use

single_alike : (a b : List ℕ) → are_alike a b ≡ true → is_single (before_first is_hyphen a) ≡ is_single (before_first is_hyphen b)
single_alike a b alike =
    let same = sym (hyphen-fold a) ∙ ap (before_first is_hyphen) (alike_is a b alike) ∙ hyphen-fold b in
    ap (λ n. n == 1) (sym (length-fold (before_first is_hyphen a)) ∙ ap length same ∙ length-fold (before_first is_hyphen b))

pub based : (range text : List ℕ) → base_text text ≡ text → begins_with_base range text ≡ are_alike text (base_text range)
based [] [] own = refl
based [] (b ∷ text) own = rw (some_length b text) refl
based (a ∷ range) [] own = grind (arith, nat_tests)
based (a ∷ range) (b ∷ text) own =
    grind (arith, nat_tests, common_steps, based range text, single_alike text (base_text range), first_stays range, mark-fold 45 (omega arith) a, mark-fold 45 (omega arith) b, some_length b text)
