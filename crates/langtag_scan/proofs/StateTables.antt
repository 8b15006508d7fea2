-- What the tables say of the state of a position is what the grammar says of the position: by computation.
use Rattle.langtag_scan.proofs.Prelude.{◌≡◌, ℕ, ◌+◌, ◌-◌, ◌<◌, ◌≤◌, Bool, true, false, cond, eqb, eqb-true, ltb, leb, not, ◌&&◌, ◌||◌, List, [], ◌∷◌, ◌++◌, length, take, get_or, Option, Some, None, refl, ap, ◌∙◌, arith, zero, suc, drop, inl, inr, sym, subst, codes, fold, MatchOption, list_all, option_map_or, take-append_seam, agree_below, agree_below_at, and_parts, or_cases, not-true, ltb-true, leb-true, lt-ltb, cases_lt, both_ways, get_or_past, position-Some, common_steps, eq-eqb, ne_eqb, length-append, nat_tests}
use Rattle.std.specs.Cmp.{booleans_Decides}
use Rattle.std.proofs.Math.Bool.{beq}
use Rattle.std.proofs.lemmas.Bool.{le-ltb}
use Rattle.std.proofs.lemmas.List.Sums.{AllPass-from_list_all}
use Rattle.langtag_scan.specs.Grammar.{fold_byte, fold_text, is_letter, is_digit, is_mark, grandfathered_tags, irregular_texts, folded_texts, folded_at, is_possible, is_prefix, Kind, Empty, Begun, possible_index, irregular_after, position_after, position_of, part_before, ending_of, is_dead, nothing_read, Stage, Start, Language, Extended, AfterScript, AfterRegion, AfterVariant, AfterSingleton, InExtension, AfterMark, InPrivate, AfterFirstMark, InPrivateTag, Stands}
use Rattle.langtag_scan.specs.Kind.{Mark, Letters, Digits, LetterFirst, DigitFirst}
use Rattle.langtag_scan.specs.Position.{Position}
use Rattle.langtag_scan.specs.States.{states_of, states_along}
use Rattle.langtag_scan.specs.Tracking.{next_number, is_reached, state_of, begun_number}
use Rattle.langtag_scan.specs.declared.state.Ending.{Ending}
use Rattle.langtag_scan.specs.declared.state.State.{State}
use Rattle.langtag_scan.specs.declared.state.Ending.TheVariants.{NoTag, Normal, PrivateUse, Irregular}
use Rattle.langtag_scan.specs.declared.states.TheConstants as table
use Rattle.langtag_scan.proofs.CaseLaw.{is_letter-fold, is_digit-fold, is_mark-fold, hyphen-fold, fold_byte-twice}
use Rattle.langtag_scan.proofs.IrregularTexts.{is_prefix-push, prefix_rest, seventeen_folded}
use Rattle.langtag_scan.proofs.PositionLaws.{FollowsIrregular, follows_irregular, position_of-push}

-- ---- a byte of each class

abbrev class_bytes : List ℕ
class_bytes = codes "abcdefghijklmnopqrstuvwxyz0-" ++ 0 ∷ []

abbrev pub class_of : ℕ → ℕ
class_of b = get_or table.CLASSES.now b 0

abbrev class_byte : ℕ → ℕ
class_byte class = get_or class_bytes class 0

same_from_beq : (x y : Bool) → beq x y ≡ true → x ≡ y
same_from_beq x y same = (booleans_Decides x y).0 same

-- ---- what is computed at each position

-- a number of the table of kinds says this ending
abbrev says : ℕ → Ending → Bool
says n (Normal place) = eqb n place && ltb place 6
says n NoTag = eqb n 6
says n PrivateUse = eqb n 7
says n (Irregular k) = eqb n (k + 8)

-- the ending that it says
abbrev pub ending_by : ℕ → Ending
ending_by n = cond (ltb n 6) (Normal n) (cond (eqb n 6) NoTag (cond (eqb n 7) PrivateUse (Irregular (n - 8))))

pub normal_by : (n : ℕ) → n < 6 → Normal n ≡ ending_by n
normal_by n within = rw (lt-ltb n 6 within) refl

pub irregular_by : (n : ℕ) → 8 ≤ n → Irregular (n - 8) ≡ ending_by n
irregular_by n past = rw (le-ltb n 6 (omega arith), ne_eqb n 6 (λ e. omega (arith, e)), ne_eqb n 7 (λ e. omega (arith, e))) refl

ending_from : (n : ℕ) (ending : Ending) → says n ending ≡ true → ending_by n ≡ ending
ending_from n ending is = grind (arith, common_steps, and_parts, eqb-true, irregular_by)

-- one byte of a class leads from a position with this number to that of the next one, which is that of no state where no tag begins so
abbrev leads : Position → ℕ → ℕ → Bool
leads p number class =
    let next = position_after p (class_byte class) in
    eqb (next_number class number) (state_of next) && (is_reached next && beq (eqb (next_number class number) table.NONE) (is_dead next))

-- and the tables say of the number what the position says
is_described_by : Position → ℕ → Bool
is_described_by p number =
    agree_below (leads p number) (λ class. true) 29 && (eqb (get_or table.TABLES.now.parts number 0) (part_before p) && says (get_or table.TABLES.now.kinds number 0) (ending_of p))

abbrev is_described : Position → Bool
is_described p = is_described_by p (state_of p)

-- ---- a subtag that has begun

abbrev kinds : List Kind
kinds = Empty ∷ Mark ∷ Letters ∷ Digits ∷ LetterFirst ∷ DigitFirst ∷ []

each_kind : (test : Kind → Bool) → list_all test kinds ≡ true → (kind : Kind) → test kind ≡ true
each_kind test all kind = grind (arith, common_steps, and_parts)

abbrev alone : Stage → Kind → ℕ → Position
alone stage kind size = record { begun = Some (record { stage = stage; kind = kind; size = size }); irregular = None }

abbrev is_size_described : Stage → Kind → ℕ → Bool
is_size_described stage kind size = not (is_reached (alone stage kind size)) || is_described (alone stage kind size)

abbrev is_row_described : Stage → Kind → Bool
is_row_described stage kind = leb (length (states_of stage kind)) 9 && agree_below (is_size_described stage kind) (λ size. true) 9

abbrev are_rows_described : Stage → Bool
are_rows_described stage = list_all (is_row_described stage) kinds

-- a fourth extended subtag takes none of the three places
rows_described : (stage : Stage) → are_rows_described stage ≡ true
unfolding is_described_by states_of is_letter is_digit is_mark fold_byte
rows_described Start = refl
rows_described (Language zero) = refl
rows_described (Language (suc zero)) = refl
rows_described (Language (suc (suc zero))) = refl
rows_described (Language (suc (suc (suc zero)))) = refl
rows_described (Language (suc (suc (suc (suc taken))))) = refl
rows_described (Extended zero) = refl
rows_described (Extended (suc zero)) = refl
rows_described (Extended (suc (suc zero))) = refl
rows_described (Extended (suc (suc (suc zero)))) = refl
rows_described (Extended (suc (suc (suc (suc taken))))) = refl
rows_described AfterScript = refl
rows_described AfterRegion = refl
rows_described AfterVariant = refl
rows_described AfterSingleton = refl
rows_described InExtension = refl
rows_described AfterMark = refl
rows_described InPrivate = refl
rows_described AfterFirstMark = refl
rows_described InPrivateTag = refl

-- ---- along the irregular texts

along_described : agree_below (λ k. ltb (length (folded_at k)) 12 && agree_below (λ n. is_described (position_of (take n (folded_at k)))) (λ n. true) 12) (λ k. true) 17 ≡ true
unfolding is_described_by states_of states_along folded_texts irregular_texts grandfathered_tags is_letter is_digit is_mark fold_byte
along_described = refl

-- ---- a byte and that of its class

-- a letter or a hyphen, as in the irregular texts
abbrev is_text_byte : ℕ → Bool
is_text_byte b = is_letter b || eqb b 45

texts_plain : agree_below (λ k. list_all is_text_byte (folded_at k)) (λ k. true) 17 ≡ true
unfolding folded_texts irregular_texts grandfathered_tags is_letter fold_byte
texts_plain = refl

-- they differ in nothing that a position looks at
abbrev is_alike_by : ℕ → ℕ → Bool
is_alike_by c b =
    beq (eqb c 45) (eqb b 45) && (beq (is_letter c) (is_letter b) && (beq (is_digit c) (is_digit b) && (beq (is_mark c) (is_mark b)
    && (eqb (fold_byte c) (fold_byte b) || not (is_text_byte b)))))

bytes_classed : (b : ℕ) → b < 256 → (ltb (class_of b) 29 && is_alike_by (class_byte (class_of b)) b) ≡ true
unfolding is_letter is_digit is_mark fold_byte
bytes_classed b within = agree_below_at (λ b. ltb (class_of b) 29 && is_alike_by (class_byte (class_of b)) b) (λ b. true) 256 b refl within

pub class_within : (b : ℕ) → b < 256 → class_of b < 29
class_within b within = ltb-true _ _ (and_parts (ltb (class_of b) 29) _ (bytes_classed b within)).0

text_byte_at : (k j : ℕ) → k < 17 → j < length (folded_at k) → is_text_byte (get_or (folded_at k) j 0) ≡ true
text_byte_at k j within = AllPass-from_list_all is_text_byte _ (agree_below_at (λ k. list_all is_text_byte (folded_at k)) (λ k. true) 17 k texts_plain within) j 0

-- no irregular text has another byte
outside : (p : List ℕ) (c : ℕ) (o : Option ℕ) → is_text_byte c ≡ false → possible_index (p ++ c ∷ []) ≡ o → o ≡ None
outside p c None other at = refl
outside p c (Some k) other at =
    grind (arith, common_steps, position-Some (is_prefix (p ++ c ∷ [])) folded_texts k [] at, seventeen_folded, is_prefix-push, and_parts, ltb-true, eqb-true, text_byte_at, both_ways)

irregular_after-same : (o : Option (List ℕ)) (c b : ℕ) → eqb c 45 ≡ eqb b 45 → is_letter c ≡ is_letter b → (eqb (fold_byte c) (fold_byte b) || not (is_text_byte b)) ≡ true →
    option_map_or (irregular_after c) o None ≡ option_map_or (irregular_after b) o None
irregular_after-same None c b hyphens letters folds = refl
irregular_after-same (Some p) c b hyphens letters folds =
    let none : (x : ℕ) → is_text_byte x ≡ false → possible_index (p ++ x ∷ []) ≡ None = λ x other. outside p x _ other refl in
    grind (arith, common_steps, or_cases, eqb-true, not-true, is_letter-fold, hyphen-fold, none (fold_byte b), none (fold_byte c))

position_after-same : (p : Position) (c b : ℕ) → is_alike_by c b ≡ true → position_after p c ≡ position_after p b
position_after-same p c b alike = grind (arith, common_steps, and_parts, same_from_beq, irregular_after-same p.irregular c b)

position_after-class : (p : Position) (b : ℕ) → b < 256 → position_after p (class_byte (class_of b)) ≡ position_after p b
position_after-class p b within = position_after-same p _ b (and_parts (ltb (class_of b) 29) _ (bytes_classed b within)).1

is_alike_by-fold : (b : ℕ) → is_alike_by (fold_byte b) b ≡ true
is_alike_by-fold b = grind (arith, nat_tests, hyphen-fold b, is_letter-fold b, is_digit-fold b, is_mark-fold b, fold_byte-twice b, eq-eqb)

position_from-fold : (q : List ℕ) (p : Position) → fold position_after p (fold_text q) ≡ fold position_after p q
position_from-fold [] p = refl
position_from-fold (b ∷ q) p =
    ap (λ r. fold position_after r (fold_text q)) (position_after-same p _ b (is_alike_by-fold b)) ∙ position_from-fold q (position_after p b)

-- ---- what the tables say of a state

begun_described : (s : Begun) → is_reached (record { begun = Some s; irregular = None }) ≡ true → is_described (record { begun = Some s; irregular = None }) ≡ true
begun_described s reached =
    let parts = and_parts (leb (length (states_of s.stage s.kind)) 9) _ (each_kind (is_row_described s.stage) (rows_described s.stage) s.kind) in
    elim (cases_lt s.size 9) [
      | inl within ↦ sym (ap (λ x. not x || is_described (alone s.stage s.kind s.size)) reached) ∙ agree_below_at (is_size_described s.stage s.kind) (λ size. true) 9 s.size parts.1 within
      | inr past ↦
          let none : begun_number s ≡ table.NONE = get_or_past (states_of s.stage s.kind) s.size table.NONE (omega (arith, leb-true _ _ parts.0)) in
          absurd (both_ways (eqb (begun_number s) table.NONE) (not-true _ reached) (eq-eqb _ _ none))
    ]

prefix_described : (q : List ℕ) (k : ℕ) → k < 17 → is_possible q k ≡ true → is_described (position_of q) ≡ true
prefix_described q k within possible =
    let n = length (fold_text q) in
    let rest = prefix_rest (fold_text q) (folded_at k) possible in
    let prefix : take n (folded_at k) ≡ fold_text q = ap (take n) (sym rest) ∙ take-append_seam (fold_text q) (drop n (folded_at k)) in
    let along = and_parts (ltb (length (folded_at k)) 12) _ (agree_below_at (λ k. ltb (length (folded_at k)) 12 && agree_below (λ n. is_described (position_of (take n (folded_at k)))) (λ n. true) 12) (λ k. true) 17 k along_described within) in
    let short : n < 12 = omega (arith, ltb-true _ _ along.0, ap length rest, length-append (fold_text q) (drop n (folded_at k))) in
    ap is_described (sym (position_from-fold q nothing_read) ∙ ap position_of (sym prefix)) ∙ agree_below_at (λ n. is_described (position_of (take n (folded_at k)))) (λ n. true) 12 n along.1 short

by_parts :
    (q : List ℕ) (b : Option Begun) (o : Option (List ℕ)) → position_of q ≡ record { begun = b; irregular = o } → FollowsIrregular q o → is_reached (record { begun = b; irregular = o }) ≡ true →
    state_of (record { begun = b; irregular = o }) < table.NONE → is_described (record { begun = b; irregular = o }) ≡ true
by_parts q b o at gone reached live = grind (arith, nat_tests, begun_described, prefix_described q)

module _ (q : List ℕ) (number : ℕ) (live : number < table.NONE) (stands : Stands q number) where
  described : is_described_by (position_of q) number ≡ true
  described =
      rw stands.is (by_parts q (position_of q).begun (position_of q).irregular refl (follows_irregular q) stands.reached (subst (λ n. n < table.NONE) stands.is live))

  -- where each class of bytes leads, and what the other tables have
  abbrev Said : Type 0
  Said =
      (agree_below (leads (position_of q) number) (λ class. true) 29 ≡ true) × (get_or table.TABLES.now.parts number 0 ≡ part_before (position_of q))
      × (says (get_or table.TABLES.now.kinds number 0) (ending_of (position_of q)) ≡ true)

  said : Said
  unfolding is_described_by
  said = grind (arith, common_steps, and_parts, agree_below (leads (position_of q) number), described, eqb-true)

  pub stands_push : (b : ℕ) → b < 256 →
      Stands (q ++ b ∷ []) (next_number (class_of b) number) × (eqb (next_number (class_of b) number) table.NONE ≡ is_dead (position_of (q ++ b ∷ [])))
  stands_push b within =
      let led = agree_below_at (leads (position_of q) number) (λ class. true) 29 (class_of b) said.0 (class_within b within) in
      let first = and_parts (eqb (next_number (class_of b) number) (state_of (position_after (position_of q) (class_byte (class_of b))))) _ led in
      let parts = and_parts (is_reached (position_after (position_of q) (class_byte (class_of b)))) _ first.1 in
      let next : position_after (position_of q) (class_byte (class_of b)) ≡ position_of (q ++ b ∷ []) =
      position_after-class (position_of q) b within ∙ sym (position_of-push q b) in
      (record { reached = ap is_reached (sym next) ∙ parts.0; is = eqb-true _ _ first.0 ∙ ap state_of next }, same_from_beq _ _ parts.1 ∙ ap is_dead next)

  pub stands_part : get_or table.TABLES.now.parts number 0 ≡ part_before (position_of q)
  stands_part = said.1

  pub stands_ending : ending_by (get_or table.TABLES.now.kinds number 0) ≡ ending_of (position_of q)
  stands_ending = ending_from (get_or table.TABLES.now.kinds number 0) (ending_of (position_of q)) said.2

pub stands_nothing : Stands [] table.START
unfolding states_along folded_texts irregular_texts grandfathered_tags fold_byte
stands_nothing = record { reached = refl; is = refl }

-- the state with this number, if it is one, stands where a tag may follow
pub stands_after :
    (o : Option State) (n : ℕ) (q : List ℕ) → MatchOption o (n ≡ 164) (λ next. next.number ≡ n) → Stands q n × (eqb n table.NONE ≡ is_dead (position_of q)) →
    MatchOption o (is_dead (position_of q) ≡ true) (λ next. (is_dead (position_of q) ≡ false) × Stands q next.number)
stands_after o n q is h = grind (arith, common_steps, eq-eqb n 164, ne_eqb n 164)

-- ---- the numbers

rows_within : list_all (λ row. (eqb (length row) table.NONE) && list_all (λ n. leb n table.NONE) row) table.TABLES.now.next ≡ true
rows_within = refl

pub next_within : (class number : ℕ) → class < 29 → number < table.NONE → next_number class number ≤ table.NONE
next_within class number in_rows in_row =
    let row = and_parts (eqb (length (get_or table.TABLES.now.next class [])) table.NONE) _ (AllPass-from_list_all (λ row. (eqb (length row) table.NONE) && list_all (λ n. leb n table.NONE) row) table.TABLES.now.next rows_within class [] in_rows) in
    leb-true _ _ (AllPass-from_list_all (λ n. leb n table.NONE) (get_or table.TABLES.now.next class []) row.1 number 0 (omega (arith, eqb-true _ _ row.0)))

parts_within : list_all (λ n. ltb n 6) table.TABLES.now.parts ≡ true
parts_within = refl

pub part_within : (number : ℕ) → number < table.NONE → get_or table.TABLES.now.parts number 0 < 6
part_within number within = ltb-true _ _ (AllPass-from_list_all (λ n. ltb n 6) table.TABLES.now.parts parts_within number 0 within)
