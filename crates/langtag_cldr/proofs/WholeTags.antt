-- Texts that are no tag that the registry replaces as a whole, as their first bytes show.
use Rattle.langtag_scan.proofs.Prelude.{◌≡◌, ℕ, true, false, Bool, not, codes, Some, None, List, [], ◌∷◌, refl, sym, ap, ◌∙◌, arith, cond, map, take_while-cons, slice_split, find, Bor, subst, ◌-◌, ◌<◌, ◌≤◌, ◌==◌, ◌&&◌, ◌||◌, ◌⊎◌, inl, inr, length, get_or, take, drop, list_all, bytes_eq, bytes_decides, before_first, after_first, nat_tests, common_steps, and_parts, both_ways, false_from_ne_true, option_map, length-take}
use Rattle.std.specs.Bool.{nat_le}
use Rattle.langtag_scan.specs.Grammar.{is_digit, is_extended, is_hyphen, is_private_subtag, is_single, is_letter, are_alike, are_alike-decides, fold_byte, fold_text}
use Rattle.langtag_scan.proofs.CaseLaw.{fold_byte-twice, is_letter-fold, length-fold}
use Rattle.langtag_scan.proofs.Disjoint.{extended_three}
use Rattle.langtag_fields.specs.Entry.{Entry, value_for}
use Rattle.langtag_fields.specs.Fields.{preferred_tag}
use Rattle.langtag_fields.specs.Subtags.{tag_preferred}
use Rattle.langtag_fields.proofs.Values.{value_good}
use Rattle.langtag_range.specs.Definitions.{basic_text, hyphened, is_language_range, is_separator}
use Rattle.langtag_range.proofs.AlikeTexts.{mark-fold}
use Rattle.langtag_range.proofs.BasicForms.{hyphened_range}
use Rattle.langtag_cldr.specs.Definitions.{KeepsLanguage, base_text, begins_british, begins_counted, begins_replaced, current_text, fields_of_subtags, begins_with_base, follows_none, is_never_second, text_fields}
use Rattle.langtag_cldr.proofs.BaseTexts.{base_byte, base_within, based, first_stays, hyphen-fold, hyphen_off}
use Rattle.langtag_cldr.proofs.CommonTexts.{parts_read, read_byte, read_nothing, length_read, rest_of, unmarked}

-- ---- a Preferred-Value has no "_"

pub read_plain : (text new : List ℕ) → preferred_tag text ≡ Some new → hyphened new ≡ new
unfolding preferred_tag tag_preferred is_letter is_digit is_private_subtag
read_plain text new is = hyphened_range new (value_good is_language_range tag_preferred text new refl is)

-- so a text with a Preferred-Value has its fields, and any other text its own
pub current_some :
    (text new first rest : List ℕ) → preferred_tag (base_text (basic_text text)) ≡ Some new → first ≡ before_first is_separator new → rest ≡ after_first is_separator new →
    fields_of_subtags (first ∷ slice_split is_separator rest) ≡ text_fields (current_text text)
current_some text new first rest is f r = rw (is) (parts_read new first rest f r ∙ ap text_fields (read_plain (base_text (basic_text text)) new is))

pub current_none :
    (text first rest : List ℕ) → preferred_tag (base_text (basic_text text)) ≡ None → first ≡ before_first is_separator text → rest ≡ after_first is_separator text →
    fields_of_subtags (first ∷ slice_split is_separator rest) ≡ text_fields (current_text text)
current_none text first rest none f r = rw none (parts_read text first rest f r)

-- ---- the table

-- a tag in the table has neither extensions nor private use
abbrev is_own_base : Entry → Bool
is_own_base e = bytes_eq (base_text e.subtag) e.subtag

base_listed : list_all is_own_base tag_preferred ≡ true
unfolding tag_preferred
base_listed = refl

abbrev entry_of : Bor (List ℕ) × Bor (List ℕ) → Entry
entry_of pair = record { subtag = pair.0.now; value = pair.1.now }

-- the first pair with which a range begins has the value for its base
value_among :
    (pairs : List (Bor (List ℕ) × Bor (List ℕ))) (range : List ℕ) → list_all is_own_base (map entry_of pairs) ≡ true →
    option_map (λ pair. pair.1.now) (find (λ pair. begins_with_base range pair.0.now) pairs) ≡ value_for (map entry_of pairs) (base_text range)
value_among [] range own = refl
value_among (pair ∷ pairs) range own =
    grind (arith, nat_tests, and_parts (is_own_base (entry_of pair)) (list_all is_own_base (map entry_of pairs)) own, bytes_decides (base_text pair.0.now) pair.0.now, both_ways, based range pair.0.now, value_among pairs range)

pub value_found :
    (pairs : List (Bor (List ℕ) × Bor (List ℕ))) (range : List ℕ) → map entry_of pairs ≡ tag_preferred →
    option_map (λ pair. pair.1.now) (find (λ pair. begins_with_base range pair.0.now) pairs) ≡ value_for tag_preferred (base_text range)
value_found pairs range same = value_among pairs range (ap (list_all is_own_base) same ∙ base_listed) ∙ ap (λ list. value_for list (base_text range)) same

-- ---- texts that pass a test are none of the tags that do not

none_listed :
    (test : List ℕ → Bool) (list : List Entry) (text : List ℕ) → list_all (λ e. not (test (fold_text e.subtag))) list ≡ true → test (fold_text text) ≡ true → value_for list text ≡ None
none_listed test [] text all is = refl
none_listed test (e ∷ list) text all is =
    grind (arith, common_steps, and_parts, are_alike-decides e.subtag text, false_from_ne_true, none_listed test list text)

-- no hyphen stands at an index
abbrev is_free : ℕ → List ℕ → Bool
is_free k text = not (get_or text k 0 == 45)

-- at most two bytes are all
abbrev is_little : List ℕ → Bool
is_little text = nat_le (length text) 2

-- the subtag of two bytes is all, or what follows it follows none in a replaced tag
abbrev goes_on_other : List ℕ → Bool
goes_on_other text = is_free 0 text && (is_free 1 text && (((get_or text 2 0 == 45) && follows_none (drop 3 text)) || nat_le (length text) 2))

-- the first two bytes are no beginning of a replaced tag
abbrev begins_otherwise : List ℕ → Bool
begins_otherwise text = is_free 0 text && (is_free 1 text && not (begins_replaced (get_or text 0 0) (get_or text 1 0)))

-- the first three bytes are neither `sgn` nor `art`
abbrev begins_with_other : List ℕ → Bool
begins_with_other text =
    is_free 0 text && (is_free 1 text && (is_free 2 text && not (bytes_eq (take 3 text) (fold_text (codes "sgn")) || bytes_eq (take 3 text) (fold_text (codes "art")))))

-- the first subtag has more than three bytes
abbrev begins_long : List ℕ → Bool
begins_long text = is_free 0 text && (is_free 1 text && (is_free 2 text && is_free 3 text))

listed_little : list_all (λ e. not (is_little (fold_text e.subtag))) tag_preferred ≡ true
unfolding tag_preferred fold_byte
listed_little = refl

listed_go_on : list_all (λ e. not (goes_on_other (fold_text e.subtag))) tag_preferred ≡ true
unfolding tag_preferred fold_byte is_letter
listed_go_on = refl

-- ---- a text is read byte by byte up to its first separator

unhyphened : (x : ℕ) → is_separator x ≡ false → (x == 45) ≡ false
unhyphened x is = grind (arith, nat_tests)

plain_read : (x : ℕ) (text : List ℕ) → is_separator x ≡ false → basic_text (x ∷ text) ≡ x ∷ basic_text text
plain_read x text is = grind (arith, nat_tests, common_steps, read_byte)

-- and it stays if extensions and private use are left out
plain_based : (x : ℕ) (text : List ℕ) → is_separator x ≡ false → base_text (basic_text (x ∷ text)) ≡ x ∷ base_text (basic_text text)
plain_based x text is = ap base_text (plain_read x text is) ∙ base_byte x (basic_text text) (unhyphened x is)

-- a separator that no "*" follows
mark_read : (m : ℕ) (text : List ℕ) → is_separator m ≡ true → begins_counted text ≡ true → basic_text (m ∷ text) ≡ 45 ∷ basic_text text
mark_read m text is counted = grind (arith, nat_tests, common_steps, read_byte)

free_fold : (x : ℕ) → is_separator x ≡ false → (fold_byte x == 45) ≡ false
free_fold x is = grind (arith, nat_tests, mark-fold 45 (omega arith) x)

pub cut : (x : ℕ) (text : List ℕ) → before_first is_separator (x ∷ text) ≡ cond (not (is_separator x)) (x ∷ before_first is_separator text) []
cut x text = take_while-cons (λ b. not (is_separator b)) x text

first_free : (x : ℕ) (text : List ℕ) → 1 ≤ length (before_first is_separator (x ∷ text)) → is_separator x ≡ false
first_free x text some = grind (arith, common_steps, false_from_ne_true, cut x text)

pub length_first : (text : List ℕ) → length (before_first is_separator text) ≤ length text
length_first text = grind (arith, length-take)

-- ---- by the first subtag

module _ (x y : ℕ) (text : List ℕ) (long : 2 ≤ length (before_first is_separator (x ∷ y ∷ text))) where
  x_free : is_separator x ≡ false
  x_free = first_free x (y ∷ text) (omega (arith, long))

  x_off : before_first is_separator (x ∷ y ∷ text) ≡ x ∷ before_first is_separator (y ∷ text)
  x_off = unmarked x (y ∷ text) x_free

  y_free : is_separator y ≡ false
  y_free = let same = ap length x_off in first_free y text (omega (arith, long, same))

  y_off : before_first is_separator (x ∷ y ∷ text) ≡ x ∷ y ∷ before_first is_separator text
  y_off = x_off ∙ ap (λ t. x ∷ t) (unmarked y text y_free)

  two_read : base_text (basic_text (x ∷ y ∷ text)) ≡ x ∷ y ∷ base_text (basic_text text)
  two_read = plain_based x (y ∷ text) x_free ∙ ap (λ t. x ∷ t) (plain_based y text y_free)

  other_begin : begins_replaced (fold_byte x) (fold_byte y) ≡ false → preferred_tag (base_text (basic_text (x ∷ y ∷ text))) ≡ None
  unfolding preferred_tag tag_preferred fold_byte
  other_begin other = none_listed begins_otherwise tag_preferred (base_text (basic_text (x ∷ y ∷ text))) refl (rw (two_read, free_fold x x_free, free_fold y y_free, other) refl)

module _ (x y z : ℕ) (text : List ℕ) (long : 3 ≤ length (before_first is_separator (x ∷ y ∷ z ∷ text))) where
  two_long : 2 ≤ length (before_first is_separator (x ∷ y ∷ z ∷ text))
  two_long = omega (arith, long)

  z_free : is_separator z ≡ false
  z_free = let same = ap length (y_off x y (z ∷ text) two_long) in first_free z text (omega (arith, long, same))

  three_read : base_text (basic_text (x ∷ y ∷ z ∷ text)) ≡ x ∷ y ∷ z ∷ base_text (basic_text text)
  three_read = two_read x y (z ∷ text) two_long ∙ ap (λ t. x ∷ y ∷ t) (plain_based z text z_free)

  three_alone : length (before_first is_separator (x ∷ y ∷ z ∷ text)) ≡ 3 → before_first is_separator (x ∷ y ∷ z ∷ text) ≡ x ∷ y ∷ z ∷ []
  three_alone three = grind (arith, common_steps, (y_off x y (z ∷ text) two_long ∙ ap (λ t. x ∷ y ∷ t) (unmarked z text z_free)))

  other_three :
      are_alike (x ∷ y ∷ z ∷ []) (codes "sgn") ≡ false → are_alike (x ∷ y ∷ z ∷ []) (codes "art") ≡ false →
      preferred_tag (base_text (basic_text (x ∷ y ∷ z ∷ text))) ≡ None
  unfolding preferred_tag tag_preferred fold_byte
  other_three sgn art =
      none_listed begins_with_other tag_preferred (base_text (basic_text (x ∷ y ∷ z ∷ text))) refl
      (rw (three_read, free_fold x (x_free x y (z ∷ text) two_long), free_fold y (y_free x y (z ∷ text) two_long))
      (rw (free_fold z z_free, sgn, art) refl))

pub not_by_little : (text : List ℕ) → length (before_first is_separator text) ≤ 1 → length (after_first is_separator text) ≡ 0 → preferred_tag (base_text (basic_text text)) ≡ None
unfolding preferred_tag
not_by_little text first rest = none_listed is_little tag_preferred (base_text (basic_text text)) listed_little
    (grind (arith, common_steps, nat_tests, length_read text, base_within (basic_text text), length-fold (base_text (basic_text text)), few text first rest))
  where
    few : (text : List ℕ) → length (before_first is_separator text) ≤ 1 → length (after_first is_separator text) ≡ 0 → length text ≤ 2
    few text first rest = grind (arith, common_steps, length-take)

pub not_by_two :
    (text : List ℕ) → length (before_first is_separator text) ≡ 2 →
    begins_replaced (fold_byte (get_or (before_first is_separator text) 0 0)) (fold_byte (get_or (before_first is_separator text) 1 0)) ≡ false → preferred_tag (base_text (basic_text text)) ≡ None
not_by_two text two other = grind (arith, common_steps, length_first, other_begin, y_off)

is_never_second-fold : (subtag : List ℕ) → is_never_second (fold_text subtag) ≡ is_never_second subtag
is_never_second-fold [] = refl
is_never_second-fold (a ∷ []) = rw (is_letter-fold a) refl
is_never_second-fold (a ∷ b ∷ subtag) = rw (is_letter-fold a, fold_byte-twice a, fold_byte-twice b, length-fold subtag) refl

follows_none-fold : (text : List ℕ) → follows_none (fold_text text) ≡ follows_none text
follows_none-fold text = rw (hyphen-fold text, is_never_second-fold (before_first is_hyphen text), length-fold text) refl

-- extensions and private use change nothing
follows_none-base : (text : List ℕ) → follows_none text ≡ true → follows_none (base_text text) ≡ true
follows_none-base text is = grind (arith, nat_tests, first_stays text, base_within text)

-- a separator is after two bytes that are a subtag
mark_after : (x y m : ℕ) (text : List ℕ) → length (before_first is_separator (x ∷ y ∷ m ∷ text)) ≡ 2 → is_separator m ≡ true
mark_after x y m text two = grind (arith, common_steps, y_off x y (m ∷ text), cut m text)

pub rest_after : (x y m : ℕ) (text : List ℕ) → length (before_first is_separator (x ∷ y ∷ m ∷ text)) ≡ 2 → after_first is_separator (x ∷ y ∷ m ∷ text) ≡ text
rest_after x y m text two = grind (arith, common_steps, x_free x y (m ∷ text), y_free x y (m ∷ text), mark_after x y m text two)

-- two bytes are all, or go on with a text that follows none
goes_on :
    (x y : ℕ) (text : List ℕ) → (fold_byte x == 45) ≡ false → (fold_byte y == 45) ≡ false → follows_none (fold_text text) ≡ true → (single : Bool) →
    goes_on_other (fold_text (x ∷ y ∷ cond single [] (45 ∷ text))) ≡ true
goes_on x y text a b unlike true = rw (a, b) refl
goes_on x y text a b unlike false = rw (a, b, mark-fold 45 (omega arith) 45, unlike) refl

pub not_by_follow : (text : List ℕ) → length (before_first is_separator text) ≡ 2 → KeepsLanguage (after_first is_separator text) → preferred_tag (base_text (basic_text text)) ≡ None
unfolding preferred_tag
not_by_follow [] two keeps = absurd (omega (arith, two, length_first []))
not_by_follow (x ∷ []) two keeps = absurd (omega (arith, two, length_first (x ∷ [])))
not_by_follow (x ∷ y ∷ []) two keeps =
    let long : 2 ≤ length (before_first is_separator (x ∷ y ∷ [])) = omega (arith, two) in
    none_listed goes_on_other tag_preferred (base_text (basic_text (x ∷ y ∷ []))) listed_go_on
    (rw (two_read x y [] long, read_nothing, free_fold x (x_free x y [] long), free_fold y (y_free x y [] long)) refl)
not_by_follow (x ∷ y ∷ m ∷ text) two keeps =
    let long : 2 ≤ length (before_first is_separator (x ∷ y ∷ m ∷ text)) = omega (arith, two) in
    let same = rest_after x y m text two in
    let counted = ap begins_counted (sym same) ∙ keeps.counted in
    let read = two_read x y (m ∷ text) long ∙ ap (λ t. x ∷ y ∷ base_text t) (mark_read m text (mark_after x y m text two) counted) in
    let follows = follows_none-base (basic_text text) (ap (λ t. follows_none (basic_text t)) (sym same) ∙ keeps.unlike) in
    let unlike = follows_none-fold (base_text (basic_text text)) ∙ follows in
    let goes : (single : Bool) → goes_on_other (fold_text (x ∷ y ∷ cond single [] (45 ∷ base_text (basic_text text)))) ≡ true =
    goes_on x y (base_text (basic_text text)) (free_fold x (x_free x y (m ∷ text) long)) (free_fold y (y_free x y (m ∷ text) long)) unlike in
    none_listed goes_on_other tag_preferred (base_text (basic_text (x ∷ y ∷ m ∷ text))) listed_go_on
    (ap (λ t. goes_on_other (fold_text t)) read ∙ goes (is_single (before_first is_hyphen (basic_text text))))

pub not_by_three :
    (text : List ℕ) → length (before_first is_separator text) ≡ 3 → are_alike (before_first is_separator text) (codes "sgn") ≡ false →
    are_alike (before_first is_separator text) (codes "art") ≡ false → preferred_tag (base_text (basic_text text)) ≡ None
not_by_three text three sgn art = grind (arith, common_steps, length_first, other_three, three_alone)

pub not_by_more : (text : List ℕ) → 4 ≤ length (before_first is_separator text) → preferred_tag (base_text (basic_text text)) ≡ None
unfolding preferred_tag tag_preferred fold_byte
not_by_more [] more = absurd (omega (arith, more, length_first []))
not_by_more (x ∷ []) more = absurd (omega (arith, more, length_first (x ∷ [])))
not_by_more (x ∷ y ∷ []) more = absurd (omega (arith, more, length_first (x ∷ y ∷ [])))
not_by_more (x ∷ y ∷ z ∷ []) more = absurd (omega (arith, more, length_first (x ∷ y ∷ z ∷ [])))
not_by_more (x ∷ y ∷ z ∷ w ∷ text) more =
    let long : 2 ≤ length (before_first is_separator (x ∷ y ∷ z ∷ w ∷ text)) = omega (arith, more) in
    let same = ap length (y_off x y (z ∷ w ∷ text) long) in
    let last : 2 ≤ length (before_first is_separator (z ∷ w ∷ text)) = omega (arith, same, more) in
    none_listed begins_long tag_preferred (base_text (basic_text (x ∷ y ∷ z ∷ w ∷ text))) refl
    (rw (two_read x y (z ∷ w ∷ text) long, two_read z w text last, free_fold x (x_free x y (z ∷ w ∷ text) long), free_fold y (y_free x y (z ∷ w ∷ text) long), free_fold z (x_free z w text last), free_fold w (y_free z w text last)) refl)

-- ---- by what follows a language of two letters

pub few_extended : (text : List ℕ) → length text ≤ 2 → is_extended (before_first is_separator text) ≡ false
few_extended text few = grind (arith, common_steps, false_from_ne_true, extended_three, length-take)

other_extended : (x : ℕ) (text : List ℕ) → is_separator x ≡ false → is_letter x ≡ false → is_extended (before_first is_separator (x ∷ text)) ≡ false
unfolding is_extended
other_extended x text is other = grind (arith, common_steps, unmarked, false_from_ne_true, and_parts, both_ways)

long_extended :
    (x y z w : ℕ) (text : List ℕ) → is_separator x ≡ false → is_separator y ≡ false → is_separator z ≡ false → is_separator w ≡ false →
    is_extended (before_first is_separator (x ∷ y ∷ z ∷ w ∷ text)) ≡ false
long_extended x y z w text a b c d =
    let first = unmarked x (y ∷ z ∷ w ∷ text) a ∙ ap (λ t. x ∷ t) (unmarked y (z ∷ w ∷ text) b ∙ ap (λ t. y ∷ t) (unmarked z (w ∷ text) c ∙ ap (λ t. z ∷ t) (unmarked w text d))) in
    grind (arith, common_steps, false_from_ne_true, extended_three, ap length first)

counted_free : (x : ℕ) (text : List ℕ) → begins_counted (x ∷ text) ≡ true → is_separator x ≡ false
counted_free x text is = grind (arith, nat_tests)

pub keeps_none : (text : List ℕ) → length text < 1 → KeepsLanguage text
keeps_none text none = grind (arith, common_steps, few_extended, read_nothing)

pub keeps_few : (text : List ℕ) → 1 ≤ length text → length text < 3 → begins_counted (get_or text 0 0 ∷ []) ≡ true → KeepsLanguage text
keeps_few text some few counted = grind (arith, nat_tests, common_steps, few_extended, length_read)

pub keeps_other : (text : List ℕ) → 1 ≤ length text → begins_counted (get_or text 0 0 ∷ []) ≡ true → is_letter (get_or text 0 0) ≡ false → KeepsLanguage text
keeps_other text some counted other = grind (arith, nat_tests, common_steps, other_extended, counted_free, plain_read, hyphen_off)

free_first : (x : ℕ) (text : List ℕ) → (x == 45) ≡ false → before_first is_hyphen (x ∷ text) ≡ x ∷ before_first is_hyphen text
free_first x text is = hyphen_off x text ∙ rw is refl

-- a subtag of one character comes first
pub keeps_single :
    (text : List ℕ) → 3 ≤ length text → begins_counted (get_or text 0 0 ∷ []) ≡ true → is_separator (get_or text 1 0) ≡ true → begins_counted (get_or text 2 0 ∷ []) ≡ true → KeepsLanguage text
keeps_single [] some counted mark next = absurd (omega (arith, some))
keeps_single (x ∷ []) some counted mark next = absurd (omega (arith, some))
keeps_single (x ∷ m ∷ []) some counted mark next = absurd (omega (arith, some))
keeps_single (x ∷ m ∷ z ∷ text) some counted mark next =
    let free = counted_free x (m ∷ z ∷ text) counted in
    let first = ap length (unmarked x (m ∷ z ∷ text) free) in
    let read = plain_read x (m ∷ z ∷ text) free ∙ ap (λ t. x ∷ t) (mark_read m (z ∷ text) mark next) in
    record {
      counted = counted;
      extended = grind (arith, common_steps, false_from_ne_true, extended_three, cut m (z ∷ text), first);
      unlike = rw (read, free_first x (45 ∷ basic_text (z ∷ text)) (unhyphened x free)) (grind (arith, nat_tests));
    }

-- a subtag of two characters comes first, which is not `gb`
pub keeps_pair :
    (text : List ℕ) → 4 ≤ length text → begins_counted (get_or text 0 0 ∷ []) ≡ true → is_separator (get_or text 1 0) ≡ false → is_separator (get_or text 2 0) ≡ true → begins_counted (get_or text 3 0 ∷ []) ≡ true →
    begins_british (get_or text 0 0 ∷ get_or text 1 0 ∷ []) ≡ false → KeepsLanguage text
keeps_pair [] some counted second mark next other = absurd (omega (arith, some))
keeps_pair (x ∷ []) some counted second mark next other = absurd (omega (arith, some))
keeps_pair (x ∷ y ∷ []) some counted second mark next other = absurd (omega (arith, some))
keeps_pair (x ∷ y ∷ m ∷ []) some counted second mark next other = absurd (omega (arith, some))
keeps_pair (x ∷ y ∷ m ∷ z ∷ text) some counted second mark next other =
    let free = counted_free x (y ∷ m ∷ z ∷ text) counted in
    let first = ap length (unmarked x (y ∷ m ∷ z ∷ text) free) in
    let both = ap length (unmarked y (m ∷ z ∷ text) second) in
    let read = plain_read x (y ∷ m ∷ z ∷ text) free ∙ ap (λ t. x ∷ t) (plain_read y (m ∷ z ∷ text) second ∙ ap (λ t. y ∷ t) (mark_read m (z ∷ text) mark next)) in
    record {
      counted = counted;
      extended = grind (arith, common_steps, false_from_ne_true, extended_three, cut m (z ∷ text), first, both);
      unlike = rw (read, free_first x (y ∷ 45 ∷ basic_text (z ∷ text)) (unhyphened x free), free_first y (45 ∷ basic_text (z ∷ text)) (unhyphened y second), other) (grind (arith, nat_tests));
    }

-- a text is empty, or the second of its bytes counts
abbrev IsEnd : List ℕ → Type 0
IsEnd text = (length text ≡ 0) ⊎ ((2 ≤ length text) × (begins_counted (drop 1 text) ≡ true))

-- no byte more is in the subtag, or two or more
long_read : (text : List ℕ) → IsEnd text → (length (before_first is_hyphen (basic_text text)) ≡ 0) ⊎ (2 ≤ length (before_first is_hyphen (basic_text text)))
long_read [] ends = inl (ap (λ t. length (before_first is_hyphen t)) read_nothing)
long_read (a ∷ []) (inl none) = absurd (omega (arith, none))
long_read (a ∷ []) (inr some) = absurd (let long = some.0 in omega (arith, long))
long_read (a ∷ b ∷ text) (inl none) = absurd (omega (arith, none))
long_read (a ∷ b ∷ text) (inr (long, counted)) = by_mark (is_separator a) refl
  where
    second : (b == 45) ≡ false
    second = unhyphened b (counted_free b text counted)

    by_mark : (mark : Bool) → is_separator a ≡ mark → (length (before_first is_hyphen (basic_text (a ∷ b ∷ text))) ≡ 0) ⊎ (2 ≤ length (before_first is_hyphen (basic_text (a ∷ b ∷ text))))
    by_mark true is = inl (ap (λ t. length (before_first is_hyphen t)) (mark_read a (b ∷ text) is counted) ∙ ap length (hyphen_off 45 (basic_text (b ∷ text))))
    by_mark false is =
        let read = plain_read a (b ∷ text) is ∙ ap (λ t. a ∷ t) (plain_read b text (counted_free b text counted)) in
        let first = ap (before_first is_hyphen) read ∙ free_first a (b ∷ basic_text text) (unhyphened a is) ∙ ap (λ t. a ∷ t) (free_first b (basic_text text) second) in
        let same = ap length first in
        inr (omega (arith, same))

pub keeps_long :
    (text : List ℕ) → 4 ≤ length text → begins_counted (get_or text 0 0 ∷ []) ≡ true → is_separator (get_or text 1 0) ≡ false → is_separator (get_or text 2 0) ≡ false → is_separator (get_or text 3 0) ≡ false →
    ((length (take (length text - 4) (drop 4 text)) ≡ 0) ⊎ ((2 ≤ length (take (length text - 4) (drop 4 text))) × (begins_counted (drop 1 (take (length text - 4) (drop 4 text))) ≡ true))) → KeepsLanguage text
keeps_long [] long counted b c d ends = absurd (omega (arith, long))
keeps_long (x ∷ []) long counted b c d ends = absurd (omega (arith, long))
keeps_long (x ∷ y ∷ []) long counted b c d ends = absurd (omega (arith, long))
keeps_long (x ∷ y ∷ z ∷ []) long counted b c d ends = absurd (omega (arith, long))
keeps_long (x ∷ y ∷ z ∷ w ∷ text) long counted b c d ends =
    let a = counted_free x (y ∷ z ∷ w ∷ text) counted in
    let read = plain_read x (y ∷ z ∷ w ∷ text) a ∙ ap (λ t. x ∷ t) (plain_read y (z ∷ w ∷ text) b ∙ ap (λ t. y ∷ t) (plain_read z (w ∷ text) c ∙ ap (λ t. z ∷ t) (plain_read w text d))) in
    let first = ap (before_first is_hyphen) read ∙ free_first x (y ∷ z ∷ w ∷ basic_text text) (unhyphened x a) ∙ ap (λ t. x ∷ t) (free_first y (z ∷ w ∷ basic_text text) (unhyphened y b)
    ∙ ap (λ t. y ∷ t) (free_first z (w ∷ basic_text text) (unhyphened z c) ∙ ap (λ t. z ∷ t) (free_first w (basic_text text) (unhyphened w d)))) in
    let two = long_read text (subst IsEnd (rest_of 4 (x ∷ y ∷ z ∷ w ∷ text)) ends) in
    let extended = long_extended x y z w text a b c d in
    grind (arith, nat_tests, extended, first, two)
