-- The extensions of a text: the groups of its subtags, how many there are, and the first one of a singleton.
use Rattle.langtag_scan.proofs.Prelude.{ℕ, ◌≤◌, ◌+◌, List, [], ◌∷◌, length, arith, ◌≡◌, Bool, refl, ap, ◌∙◌, Option, None, Some, map, cond, slice_index, find, true, false, ◌++◌, sym, append-nil, append_assoc, ◌≢◌, ◌<◌, suc, ◌-◌, get_or, take, drop, Bor, MatchOption, encode_utf8, length-map, get_or-take, get_or-drop, drop-append-le, length-take, length-drop, common_steps, option_map_or, AllByRecursion, list_all, list_all-append, drop-cons, length-slice_split, join_with_byte-slice_split, slice_split-cons_yes, slice_split-cons_no, false_from_ne_true, encode_ascii, is_ascii, flat_map, option_map, nat_tests}
use Rattle.langtag_scan.specs.Grammar.{join, subtags, is_hyphen, segments, segments_left, NoHyphenWithin, IsHyphenFree, Extension, IsWellFormedExtension, extension_flat, is_singleton}
use Rattle.langtag_scan.proofs.Laws.{length-subtags, slice_split-push, slice_split-append, join-hyphenated, join-append, alphanumeric_below, singleton_alphanumeric}
use Rattle.langtag_extension.specs.ExtensionTexts.{put_first, groups, extension_texts, opens, group_texts, goes_on, texts_left}
use Rattle.langtag_extension.specs.Decided.{opens_alike}
use Rattle.langtag_extension.specs.Spelling.{extension_spelling, SpellsExtension, find_extension}
use Rattle.std.proofs.Math.Seq.{take-add}
use Rattle.langtag_extension.specs.Noted.{of_singleton}

-- one more subtag is at most one more group
length-put_first : (s : List ℕ) (gs : List (List (List ℕ))) → length (put_first s gs) ≤ length gs + 1
length-put_first s gs = grind (arith, common_steps)

length-groups : (ss : List (List ℕ)) → length (groups ss) ≤ length ss
length-groups [] = omega arith
length-groups (s ∷ ss) = omega (arith, length-put_first s (groups ss), length-groups ss)

pub length-extension_texts : (text : List ℕ) → length (extension_texts text) ≤ length text + 1
length-extension_texts text = omega (arith, length-map (groups (subtags text)) join, length-groups (subtags text), length-subtags text)

-- no more of them than `count` can answer
pub ruleset few_extensions = (length-extension_texts)

-- ---- the first extension of a singleton, among extensions and among their texts

-- the text of an extension begins with the singleton
pub first_byte-spelling : (e : Extension) → slice_index (extension_spelling e) 0 ≡ e.singleton
first_byte-spelling e = grind (arith, common_steps)

-- a choice, after a function
cond-map :
    {A B : Type 0} (f : A → B) (b : Bool) (x : A) (o : Option A) (p : Option B) → p ≡ option_map f o →
    cond b (Some (f x)) p ≡ option_map f (cond b (Some x) o)
cond-map f b x o p same = grind (arith, common_steps)

-- the first text that opens with the byte is that of the first such extension
pub find_spellings :
    (b : ℕ) (es : List Extension) →
    find (opens_alike b) (map extension_spelling es) ≡ option_map extension_spelling (find_extension b es)
find_spellings b [] = refl
find_spellings b (e ∷ es) = grind (arith, common_steps, first_byte-spelling, cond-map, find_spellings b es)

-- what is found is one of the extensions
pub extension_found : (b : ℕ) (es : List Extension) → AllByRecursion IsWellFormedExtension es → (e : Extension) → find_extension b es ≡ Some e → IsWellFormedExtension e
extension_found b [] fits e found = absurd cc
extension_found b (x ∷ es) fits e found = grind (arith, nat_tests, extension_found b es fits.1 e)

-- the subtags of the extension that is found
pub subtags_found :
    (b : ℕ) (es : List Extension) → AllByRecursion IsWellFormedExtension es → (text : List ℕ) (left : List (List ℕ)) →
    Some text ≡ option_map extension_spelling (find_extension b es) →
    ((e : Extension) → SpellsExtension e text → left ≡ e.subtags) → left ≡ option_map_or (λ e. e.subtags) (find_extension b es) []
subtags_found b es fits text left found spelled = grind (arith, common_steps, extension_found b es fits)

-- none where none is found
pub subtags_not_found : (o : Option Extension) → None ≡ option_map extension_spelling o → [] ≡ option_map_or (λ e. e.subtags) o []
subtags_not_found o none = grind (arith, common_steps)

-- ---- the texts of a text's groups of subtags, joined, are the text again

-- the first group begins with the first subtag
groups-cons :
    (s : List ℕ) (ss : List (List ℕ)) →
    (prefix : List (List ℕ)) × (others : List (List (List ℕ))) × (groups (s ∷ ss) ≡ (s ∷ prefix) ∷ others)
groups-cons s ss = by_groups (groups ss)
  where
    by_groups : (gs : List (List (List ℕ))) → (prefix : List (List ℕ)) × (others : List (List (List ℕ))) × (put_first s gs ≡ (s ∷ prefix) ∷ others)
    by_groups [] = ([], [], refl)
    by_groups (g ∷ gs) =
        elim (opens g) as (λ b. (prefix : List (List ℕ)) × (others : List (List (List ℕ))) × (cond b ((s ∷ []) ∷ g ∷ gs) ((s ∷ g) ∷ gs) ≡ (s ∷ prefix) ∷ others)) [
          | true ↦ ([], g ∷ gs, refl)
          | false ↦ (g, gs, refl)
        ]

-- one more subtag before groups is one more before their texts
join-put_first :
    (s x : List ℕ) (prefix : List (List ℕ)) (others : List (List (List ℕ))) →
    join (map join (put_first s ((x ∷ prefix) ∷ others))) ≡ s ++ 45 ∷ join (map join ((x ∷ prefix) ∷ others))
join-put_first s x prefix others = grind (arith, common_steps, append_assoc)

-- the texts of groups, joined, are the subtags joined
pub join-group_texts : (ss : List (List ℕ)) → join (group_texts ss) ≡ join ss
join-group_texts [] = refl
join-group_texts (s ∷ []) = refl
join-group_texts (s ∷ x ∷ ss) = grind (arith, common_steps, groups-cons x ss, join-put_first s x, join-group_texts (x ∷ ss))

-- the texts of extensions, joined, are the subtags joined
pub join-spellings : (es : List Extension) → join (map extension_spelling es) ≡ join (flat_map extension_flat es)
join-spellings [] = refl
join-spellings (e ∷ []) = ap (λ ss. join ((e.singleton ∷ []) ∷ ss)) (sym (append-nil e.subtags))
join-spellings (e ∷ f ∷ es) = grind (arith, nat_tests, join-hyphenated (f.singleton ∷ []), join-append (e.singleton ∷ []) e.subtags, join-spellings (f ∷ es))

-- ---- the subtags of a text in groups: those of the first extension, and those of the others

-- a first subtag of one byte opens an extension
pub opens-one : (t : List ℕ) → 0 < length t → is_hyphen (get_or t 0 0) ≡ false → (1 < length t → get_or t 1 0 ≡ 45) → opens (segments t) ≡ true
opens-one t some first second = grind (arith, common_steps, slice_split-cons_no is_hyphen, slice_split-cons_yes is_hyphen)

-- one more subtag, which is not of one byte
pub list_all-next_subtag :
    (text : List ℕ) (end next : ℕ) → end < length text → get_or text end 0 ≡ 45 → end + 1 ≤ next → next ≤ length text →
    NoHyphenWithin text (end + 1) next → next ≢ end + 2 → list_all goes_on (drop 1 (segments (take end text))) ≡ true →
    list_all goes_on (drop 1 (segments (take next text))) ≡ true
list_all-next_subtag text end next below hyphen after within free long before =
    let more = next - (end + 1) in
    let part = take more (drop (suc end) text) in
    let index : next ≡ end + suc more = omega arith in
    let cut : take next text ≡ take end text ++ 45 ∷ part =
    ap (λ n. take n text) index ∙ take-add end (suc more) text ∙ ap (λ rest. take end text ++ take (suc more) rest) (drop-cons text end 0 below)
    ∙ ap (λ b. take end text ++ b ∷ part) hyphen in
    let size : length part ≡ more = grind (arith, common_steps, length-take more (drop (suc end) text), length-drop (suc end) text) in
    let kept : IsHyphenFree part = λ k d inside.
    rw (get_or-take more (drop (suc end) text) k d (omega (arith, size, inside)), get_or-drop (suc end) text k d)
    (free (suc end + k) d (omega arith) (omega (arith, size, inside, index))) in
    let parts = segments (take end text) in
    let goes : list_all goes_on (part ∷ []) ≡ true = grind (arith, common_steps) in
    rw (cut, slice_split-push (take end text) part kept, drop-append-le 1 parts (part ∷ []) (omega (arith, length-slice_split is_hyphen (take end text))), list_all-append goes_on (drop 1 parts) (part ∷ []), before) goes

-- a subtag, those that go on with it, and others from one that opens
pub groups-first :
    (p : List ℕ) (prefix rest : List (List ℕ)) → list_all goes_on prefix ≡ true → opens rest ≡ true →
    groups (p ∷ prefix ++ rest) ≡ (p ∷ prefix) ∷ groups rest
groups-first p [] rest long opened = grind (arith, common_steps)
groups-first p (f ∷ prefix) rest long opened = grind (arith, common_steps, groups-first f prefix rest)

-- the groups of a text that is cut before an opening subtag
groups-split :
    (text first : List ℕ) (rest : Option (Bor (List ℕ))) → MatchOption rest (text ≡ first) (λ r. text ≡ first ++ 45 ∷ r.now) →
    list_all goes_on (drop 1 (segments first)) ≡ true → opens (segments_left rest) ≡ true →
    groups (segments text) ≡ segments first ∷ groups (segments_left rest)
groups-split text first None whole long opened = grind (arith, nat_tests, append-nil (segments first), length-slice_split is_hyphen first, groups-first)
groups-split text first (Some rest) joined long opened =
    grind (arith, common_steps, slice_split-append first rest.now, length-slice_split is_hyphen first, groups-first)

-- the text of the first extension, and those of the others
pub group_texts-split :
    (text first : List ℕ) (rest : Option (Bor (List ℕ))) → MatchOption rest (text ≡ first) (λ r. text ≡ first ++ 45 ∷ r.now) →
    list_all goes_on (drop 1 (segments first)) ≡ true → opens (segments_left rest) ≡ true →
    group_texts (segments text) ≡ first ∷ texts_left rest
group_texts-split text first rest joined long opened = cc (groups-split text first rest joined long opened, join_with_byte-slice_split 45 first)

-- ---- singletons are ASCII

-- a singleton is ASCII
pub singleton_below : (b : ℕ) → is_singleton b ≡ true → b < 128
singleton_below b h = alphanumeric_below b (singleton_alphanumeric b h)

-- a singleton is written as its one byte
pub encode_singleton : (b : ℕ) → is_singleton b ≡ true → encode_utf8 b ≡ b ∷ []
encode_singleton b h = encode_ascii b (singleton_below b h)

-- a character that is not ASCII is no singleton
pub singleton_is_ascii : (b : ℕ) → is_ascii b ≡ false → is_singleton b ≡ false
singleton_is_ascii b h = grind (arith, common_steps, false_from_ne_true, singleton_below)

-- ---- which singletons there are

-- a singleton that is not marked has none before what is left
abbrev pub AreMarked : List Bool → List (List ℕ) → List (List ℕ) → Type 0
AreMarked marks all left = (small : ℕ) → get_or marks small false ≡ false → of_singleton small all ≡ of_singleton small left
