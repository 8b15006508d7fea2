-- Each member of the chain of a normal tag is a normal tag in the script of the tag, and adds nothing to it but what CLDR lists.
use Rattle.langtag_scan.proofs.Prelude.{◌≡◌, ℕ, zero, suc, eqb, nil_from_length, ◌⊎◌, inl, inr, true, false, Bool, cond, IsTrue, List, [], ◌∷◌, ◌++◌, length, map, flat_map, Option, None, Some, IfSome, MatchOption, refl, sym, ap, ◌∙◌, subst, arith, ◌&&◌, not, option_map, option_map_or, nat_lt, AllByRecursion, append_assoc, append-nil, length-append, and_parts, nat_tests}
use Rattle.langtag_scan.specs.Grammar.{Alike, EachRecord, Extension, IsNormal, IsWellFormed, IsWellFormedExtension, IsWellFormedPrivateUse, PrivateUse, Record, Spells, are_alike, are_alike-decides, extension_flat, is_script, is_variant, join, language_part, one_flat, private_part_flat, spell}
use Rattle.langtag_scan.proofs.Laws.{each-append, hyphenated-append, join-hyphenated, no_hyphen_each, of_variant, spelled_once}
use Rattle.langtag_text.proofs.Alike.{AlikeFields, alike_is, same_fields}
use Rattle.langtag.specs.Definitions.{IsLanguage, SpellsLanguage}
use Rattle.langtag.proofs.PartRules.{language_spelled}
use Rattle.langtag_text.proofs.FieldClasses.{from_region, from_script}
use Rattle.langtag_text.specs.FieldClasses.{is_language_field, is_region_field, is_script_field}
use Rattle.langtag_text.specs.Fields.{Fields, subtag_of}
use Rattle.langtag_cldr.specs.Definitions.{Likely, are_alike_fields, language_alone, likely_for, likely_subtags, looked_up, without_region, without_script}
use Rattle.langtag_cldr.proofs.AddedTwice.{either_way, found_of, found_row, some_value}
use Rattle.langtag_cldr.proofs.AlikeFields.{alike_fields, looked_up-alike}
use Rattle.langtag_cldr.proofs.TableRows.{are_good, is_settled, is_there, rows_listed}
use Rattle.langtag_likely.specs.Marked.{as_read, mark_of}
use Rattle.langtag_likely.proofs.MarkLaws.{read_fits}
use Rattle.langtag_parent.specs.Chain.{IsChain, above, as_written, chain_of, endings, forms, given_form, hyphenated, line, rest_of, shorter, text_of, with_each}
use Rattle.langtag_parent.specs.Parent.{fields_of, has_likely_script, is_empty, likely_script, named, other_script, parent_in_script, parent_of, parent_of_region, short, stated, stated_or, unless_alike, usual_parent, with_script}
use Rattle.langtag_parent.specs.ParentLaws.{AddsNothing, ComesFrom, EachMember, IsInOneScript, IsKept, IsWrittenAs, of_fields, of_parent, script_of}
use Rattle.langtag_parent.specs.ParentLocales.{parent_locales}
use Rattle.langtag_parent.proofs.Latin.{all_written, is_written, row_written}
use Rattle.langtag_parent.proofs.Rows.{parents_listed}

-- ---- scripts

abbrev WrittenAs : Option (List ℕ) → Option (List ℕ) → Type 0
WrittenAs own other = IfSome other (λ script. MatchOption own ⊥ (λ own. Alike own script))

written_same : (o : Option (List ℕ)) → WrittenAs o o
written_same o = grind arith

written_twice : (a b c : Option (List ℕ)) → WrittenAs a b → WrittenAs b c → WrittenAs a c
written_twice a b c x y = grind arith

-- a script that is likely is that of the fields without it
likely_written :
    (script : List ℕ) (o p : Option (List ℕ)) → cond (is_empty script) false (option_map_or (are_alike script) o false) ≡ true →
    WrittenAs (cond (is_empty script) p (Some script)) o × WrittenAs o (cond (is_empty script) p (Some script))
likely_written [] o p likely = absurd cc
likely_written (b ∷ script) o p likely = grind (arith, alike_is (b ∷ script))

-- the region is removed
none_alone : (language region : List ℕ) → likely_script language region ≡ None → likely_script language [] ≡ None
none_alone language region none = grind arith

without_place :
    (script : List ℕ) (here alone : Option (List ℕ)) → (here ≡ None → alone ≡ None) → cond (is_empty script) (unless_alike here alone) None ≡ None →
    WrittenAs (cond (is_empty script) here (Some script)) (cond (is_empty script) alone (Some script))
without_place script here alone none is = grind (arith, are_alike-decides)

-- another script
other_is :
    (script s : List ℕ) (here alone : Option (List ℕ)) → cond (is_empty script) (unless_alike here alone) None ≡ Some s → (is_empty script ≡ true) × (here ≡ Some s)
other_is script s here alone is = grind arith

found_script : (o : Option Fields) (s : List ℕ) → option_map (λ f. f.script) o ≡ Some s → (to : Fields) × (o ≡ Some to) × (to.script ≡ s)
found_script o s is = grind arith

there_script : (row other : Likely) (to : Fields) → row.to ≡ to → other.to ≡ to → is_settled row ≡ true → are_good other ≡ true → is_script to.script ≡ true
there_script row other to is also settled good = grind (arith, and_parts)

likely_good : (language region s : List ℕ) → likely_script language region ≡ Some s → is_script s ≡ true
likely_good language region s is =
    let (to, there, same) = found_script (looked_up likely_subtags (record { language = language; script = []; region = region })) s is in
    let found = found_of (record { language = language; script = []; region = region }) to there in
    let settled = found_row likely_subtags is_settled found.key to rows_listed.settled found.found in
    let good = found_row likely_subtags are_good found.key to rows_listed.good found.found in
    ap is_script (sym same) ∙ there_script settled.row good.row to settled.to_is good.to_is settled.holds_of_it good.holds_of_it

script_there : (s : List ℕ) → is_script s ≡ true → is_empty s ≡ false
unfolding is_script
script_there [] is = absurd cc
script_there (b ∷ s) is = refl

-- ---- fields that are those of a tag

pub record IsBase (f : Fields) : Type 0 where
  language : IsLanguage f.language
  script : is_script_field f.script ≡ true
  region : is_region_field f.region ≡ true

own_base : (r : Record) → IsWellFormed r → IsBase (fields_of r)
own_base r well = record {
  language = (r.primary, r.extended, language_spelled r (language_part r) well refl);
  script = grind (arith, from_script);
  region = grind (arith, from_region);
}

-- ---- a step from fields to others

kept_twice : (f g h : Fields) → IsKept f g → IsKept g h → IsKept f h
kept_twice f g h first second = grind (arith, first, second)

from_twice : (f g h : Fields) → ComesFrom f g → ComesFrom g h → ComesFrom f h
from_twice f g h (of_fields _ first) (of_fields _ second) = of_fields h (kept_twice f g h first second)
from_twice f g h (of_parent key parent _ below is first) (of_fields _ second) = of_parent key parent h below is (kept_twice parent g h first second)
from_twice f g h first (of_parent key parent _ below is second) = of_parent key parent h (from_twice f g key first below) is second

own : (f g : Fields) → IsKept f g → ComesFrom f g
own f g kept = of_fields g kept

pub record Step (f g : Fields) : Type 0 where
  base : IsBase g
  written : IsWrittenAs f g
  from : ComesFrom f g

no_step : (f : Fields) → IsBase f → Step f f
no_step f base = record { base = base; written = written_same (script_of f); from = of_fields _ (refl, inr refl) }

two_steps : (f g h : Fields) → Step f g → Step g h → Step f h
two_steps f g h first second = record {
  base = second.base;
  written = written_twice (script_of f) (script_of g) (script_of h) first.written second.written;
  from = from_twice f g h first.from second.from;
}

short_step : (f : Fields) → IsBase f → Step f (short f)
short_step f base =
    let likely = likely_written f.script (likely_script f.language f.region) (likely_script f.language f.region) in
    grind (arith, base, no_step, likely, own f (without_script f))

-- ---- the parent in a row

script_alike : (script other : List ℕ) (o : Option (List ℕ)) → Alike script other → WrittenAs (cond (is_empty other) o (Some other)) (cond (is_empty script) o (Some script))
script_alike script other o same = grind arith

fields_alike : (f g : Fields) → AlikeFields f g → IsWrittenAs g f
fields_alike f g same =
    let fields : AlikeFields (without_script f) (without_script g) = grind (arith, same) in
    grind (arith, looked_up-alike (without_script f) (without_script g) fields, same)

stated_is : (to g : Fields) → stated to ≡ Some g → (is_there to.language ≡ true) × (to ≡ g)
stated_is to g is = grind arith

row_base : (to : Fields) → is_there to.language ≡ true → (is_language_field to.language && (is_script_field to.script && is_region_field to.region)) ≡ true → IsBase to
row_base to some good =
    let alone : SpellsLanguage to.language [] to.language = grind (arith, and_parts) in
    record { language = (to.language, [], alone); script = grind (arith, and_parts); region = grind (arith, and_parts) }

row_step : (f to g : Fields) → likely_for parent_locales f ≡ Some to → stated to ≡ Some g → Step f g
row_step f to g there is =
    let (some, same) = stated_is to g is in
    let good = found_row parent_locales are_good f to parents_listed.good there in
    let row = found_row parent_locales is_written f to all_written there in
    let written : IsWrittenAs f to =
    written_twice (script_of f) (script_of row.row.from) (script_of to) (fields_alike row.row.from f row.from_is) (subst (IsWrittenAs row.row.from) row.to_is (row_written row.row (ap (λ f. is_there f.language) row.to_is ∙ some) row.holds_of_it)) in
    subst (Step f) same (record { base = row_base to some (rw good.to_is at good.holds_of_it); written = written; from = of_parent f to to (of_fields f (refl, inr refl)) there (refl, inr refl) })

stated_step : (f g : Fields) (other : Option Fields) → (other ≡ Some g → Step f g) → stated_or f other ≡ Some g → Step f g
stated_step f g other later is = grind (arith, row_step f)

-- ---- the script that a tag names

named_written :
    (tag f : Fields) → (are_alike_fields f (language_alone tag) && has_likely_script (without_region tag)) ≡ true →
    IsWrittenAs f (with_script f tag.script)
named_written tag f both =
    let parts = and_parts (are_alike_fields f (language_alone tag)) (has_likely_script (without_region tag)) both in
    let written = likely_written tag.script (likely_script tag.language []) (likely_script f.language f.region) parts.1 in
    grind (arith, alike_fields f (language_alone tag) parts.0, fields_alike (language_alone tag) f, written)

named_step : (tag f : Fields) → IsBase tag → IsBase f → Step f (named tag f)
named_step tag f of_tag base =
    either_way (are_alike_fields f (language_alone tag) && has_likely_script (without_region tag))
    (λ both. rw both (grind (arith, of_tag, base, named_written tag f both, own f (with_script f tag.script)))) (λ other. rw other (no_step f base))

-- ---- the usual parent

alone_step : (f : Fields) → IsBase f → likely_script f.language [] ≡ None → Step f (language_alone f)
alone_step f base unknown = grind (arith, base, own f (language_alone f))

place_step : (f : Fields) → IsBase f → other_script f ≡ None → Step f (without_region f)
place_step f base none = grind (arith, base, without_place, none_alone, own f (without_region f))

-- with the script that is another one
scripted_step : (f : Fields) (s : List ℕ) → IsBase f → other_script f ≡ Some s → Step f (with_script f s)
scripted_step f s base other = grind (arith, base, other_is, likely_good, from_script, script_there, own f (with_script f s))

-- without the region, and with the script that is another one
scripted_place :
    (f g : Fields) (s : List ℕ) → IsBase f → other_script f ≡ Some s → parent_in_script (with_script f s) ≡ Some g → Step f g
scripted_place f g s base other is =
    let first = scripted_step f s base other in
    let h = with_script f s in
    grind (arith, first, place_step h, stated_step h g, two_steps f h g, script_there, likely_good, other_is)

region_step : (f g : Fields) → IsBase f → parent_of_region f ≡ Some g → Step f g
region_step f g base is =
    some_value (other_script f) (λ none. grind (arith, place_step f base none))
    (λ s other. scripted_place f g s base other (grind arith))

usual_step : (f g : Fields) → IsBase f → usual_parent f ≡ Some g → Step f g
usual_step f g base is = grind (arith, alone_step f base, region_step f g base)

parent_step : (f g : Fields) → IsBase f → parent_of f ≡ Some g → Step f g
unfolding parent_of
parent_step f g base is = stated_step f g (usual_parent f) (usual_step f g base) is

line_steps : (n : ℕ) (f g : Fields) → Step f g → AllByRecursion (Step f) (line n g)
line_steps zero f g step = tt
line_steps (suc n) f g step =
    let to_short = short_step g step.base in
    let both = two_steps f g (short g) step to_short in
    (step, some_value (parent_of (short g)) (λ none. rw none tt) (λ h is. rw is (line_steps n f h (two_steps f (short g) h both (parent_step (short g) h to_short.base is)))))

-- ---- what holds of each text of some endings

each_map : (P : List ℕ → Type 0) (f : List ℕ → List ℕ) (xs : List (List ℕ)) → AllByRecursion (λ x. P (f x)) xs → AllByRecursion P (map f xs)
each_map P f [] all = tt
each_map P f (x ∷ xs) all = (all.0, each_map P f xs all.1)

abbrev IsFree : List ℕ → Type 0
IsFree text = AllByRecursion (λ b. eqb b 45 ≡ false) text

each_after : (P : List ℕ → Type 0) (v t : List ℕ) → IsFree v → AllByRecursion (λ x. P (v ++ x)) (shorter t) → AllByRecursion P (shorter (v ++ t))
each_after P [] t free all = all
each_after P (b ∷ v) t free all =
    subst (λ c. AllByRecursion P (map (λ x. b ∷ x) (shorter (v ++ t)) ++ cond c ([] ∷ []) [])) (sym free.0)
    (each-append P (map (λ x. b ∷ x) (shorter (v ++ t))) [] (each_map P (λ x. b ∷ x) (shorter (v ++ t)) (each_after (λ x. P (b ∷ x)) v t free.1 all)) tt)

abbrev AtEach : (List ℕ → Type 0) → List (List ℕ) → Type 0
AtEach P vs = (ws last : List (List ℕ)) → ws ++ last ≡ vs → P (hyphenated ws)

each_shorter : (P : List ℕ → Type 0) (vs : List (List ℕ)) → AllByRecursion IsFree vs → AtEach P vs → AllByRecursion P (shorter (hyphenated vs))
each_shorter P [] free all = tt
each_shorter P (v ∷ vs) free all =
    each-append P (map (λ x. 45 ∷ x) (shorter (v ++ hyphenated vs))) ([] ∷ [])
    (each_map P (λ x. 45 ∷ x) (shorter (v ++ hyphenated vs))
    (each_after (λ x. P (45 ∷ x)) v (hyphenated vs) free.0 (each_shorter (λ x. P (45 ∷ (v ++ x))) vs free.1 (λ ws last is. all (v ∷ ws) last (ap (λ l. v ∷ l) is)))))
    (all [] (v ∷ vs) refl, tt)

no_longer_rest : (vs others : List (List ℕ)) → nat_lt (length (hyphenated vs)) (length (hyphenated (vs ++ others))) ≡ false → hyphenated (vs ++ others) ≡ hyphenated vs
no_longer_rest vs others short =
    let both = hyphenated-append vs others in
    grind (arith, nat_tests, both, length-append, nil_from_length (hyphenated others), append-nil (hyphenated vs))

each_ending :
    (P : List ℕ → Type 0) (vs others : List (List ℕ)) → AllByRecursion IsFree vs → P (hyphenated (vs ++ others)) → AtEach P vs →
    AllByRecursion P (endings (hyphenated vs) (hyphenated (vs ++ others)))
each_ending P vs others free whole all =
    grind (arith, whole, each_shorter P vs free all, all vs [] (append-nil vs), no_longer_rest vs others)

each_form :
    (P : List ℕ → Type 0) (f : Fields) (es : List (List ℕ)) → AllByRecursion (λ e. P (text_of f e)) es → AllByRecursion (λ e. P (text_of (short f) e)) es →
    AllByRecursion P (with_each es f)
each_form P f [] long cut = tt
each_form P f (e ∷ es) long cut = each-append P (forms f e) (with_each es f) (grind (arith, long.0, cut.0)) (each_form P f es long.1 cut.1)

each_fields :
    (P : List ℕ → Type 0) (Q : Fields → Type 0) (texts : Fields → List (List ℕ)) (fs : List Fields) → ((f : Fields) → Q f → AllByRecursion P (texts f)) → AllByRecursion Q fs →
    AllByRecursion P (flat_map texts fs)
each_fields P Q texts [] each all = tt
each_fields P Q texts (f ∷ fs) each all = each-append P (texts f) (flat_map texts fs) (each f all.0) (each_fields P Q texts fs each all.1)

-- ---- the text of a record

in_parts : (p : List ℕ) (es ss rs rest : List (List ℕ)) → join (join (p ∷ es) ∷ (ss ++ rs)) ++ hyphenated rest ≡ join (p ∷ (es ++ (ss ++ (rs ++ rest))))
in_parts p es ss rs rest = simp (join-hyphenated, hyphenated-append, append_assoc)

-- ---- a member of a chain

pub record Member (r : Record) (text : List ℕ) : Type 0 where
  pub q : Record
  pub spells : Spells q text
  pub written : IsInOneScript r q
  pub added : AddsNothing r q

variants_before : (ws last : List (List ℕ)) → AllByRecursion (λ s. IsTrue (is_variant s)) (ws ++ last) → AllByRecursion (λ s. IsTrue (is_variant s)) ws
variants_before [] last all = tt
variants_before (w ∷ ws) last all = (all.0, variants_before ws last all.1)

all_free : (vs : List (List ℕ)) → AllByRecursion (λ s. IsTrue (is_variant s)) vs → AllByRecursion IsFree vs
all_free [] all = tt
all_free (v ∷ vs) all = (no_hyphen_each v (of_variant v all.0).alphanumeric, all_free vs all.1)

-- the extensions and the private private_part of a member: none, or those of the tag
record IsEnd (r : Record) (es : List Extension) (private_part : Option PrivateUse) : Type 0 where
  extensions_well : AllByRecursion IsWellFormedExtension es
  use_well : IfSome private_part IsWellFormedPrivateUse
  extensions : (es ≡ []) ⊎ (es ≡ r.extensions)
  private_use : (private_part ≡ None) ⊎ (private_part ≡ r.private_use)

member :
    (r : Record) (g : Fields) (ws last : List (List ℕ)) (es : List Extension) (private_part : Option PrivateUse) → IsWellFormed r → Step (fields_of r) g → ws ++ last ≡ r.variants → IsEnd r es private_part →
    Member r (text_of g (hyphenated (ws ++ (flat_map extension_flat es ++ private_part_flat private_part))))
member r g ws last es private_part well step is end =
    let (p, extended, language) = step.base.language in
    let script = subtag_of g.script in
    let region = subtag_of g.region in
    let q : Record = record { primary = p; extended = extended; script = script; region = region; variants = ws; extensions = es; private_use = private_part } in
    let same : fields_of q ≡ g = same_fields (fields_of q) g language.joined (grind arith) (grind arith) in
    let before = variants_before ws last (subst (AllByRecursion (λ s. IsTrue (is_variant s))) (sym is) well.variants) in
    let fits : IsWellFormed q = grind (arith, language, step.base, before, end) in
    record {
      q = q;
      spells = (fits, sym (in_parts p extended (one_flat script) (one_flat region) _) ∙ ap (λ l. join (l ∷ (one_flat script ++ one_flat region)) ++ rest_of q) language.joined);
      written = subst (IsWrittenAs (fields_of r)) (sym same) step.written;
      added = record {
        fields = subst (ComesFrom (fields_of r)) (sym same) step.from;
        variants = (last, is);
        extensions = end.extensions;
        private_use = end.private_use;
      };
    }

-- with all that stands after the region of the tag
whole_member : (r : Record) (g : Fields) → IsWellFormed r → Step (fields_of r) g → Member r (text_of g (rest_of r))
whole_member r g well step =
    member r g r.variants [] r.extensions r.private_use well step (append-nil r.variants) (record { extensions_well = well.extensions; use_well = well.private_use; extensions = inr refl; private_use = inr refl })

-- with some of its variants
plain_member : (r : Record) (g : Fields) → IsWellFormed r → Step (fields_of r) g → AtEach (λ e. Member r (text_of g e)) r.variants
plain_member r g well step = λ ws last is.
    subst (λ l. Member r (text_of g (hyphenated l))) (append-nil ws) (member r g ws last [] None well step is (record { extensions_well = tt; use_well = tt; extensions = inl refl; private_use = inl refl }))

members_with : (r : Record) (g : Fields) → IsWellFormed r → Step (fields_of r) g → AllByRecursion (Member r) (with_each (endings (hyphenated r.variants) (rest_of r)) g)
members_with r g well step =
    let others = flat_map extension_flat r.extensions ++ private_part_flat r.private_use in
    let each : (h : Fields) → Step (fields_of r) h → AllByRecursion (λ e. Member r (text_of h e)) (endings (hyphenated r.variants) (rest_of r)) =
    λ h to_h. each_ending (λ e. Member r (text_of h e)) r.variants others (all_free r.variants well.variants) (whole_member r h well to_h) (plain_member r h well to_h) in
    each_form (Member r) g (endings (hyphenated r.variants) (rest_of r)) (each g step) (each (short g) (two_steps (fields_of r) g (short g) step (short_step g step.base)))

members_plain : (r : Record) (g : Fields) → IsWellFormed r → Step (fields_of r) g → AllByRecursion (Member r) (with_each (hyphenated r.variants ∷ shorter (hyphenated r.variants)) g)
members_plain r g well step =
    let each : (h : Fields) → Step (fields_of r) h → AllByRecursion (λ e. Member r (text_of h e)) (hyphenated r.variants ∷ shorter (hyphenated r.variants)) =
    λ h to_h. (plain_member r h well to_h r.variants [] (append-nil r.variants), each_shorter (λ e. Member r (text_of h e)) r.variants (all_free r.variants well.variants) (plain_member r h well to_h)) in
    each_form (Member r) g (hyphenated r.variants ∷ shorter (hyphenated r.variants)) (each g step) (each (short g) (two_steps (fields_of r) g (short g) step (short_step g step.base)))

members_above :
    (r : Record) (f : Fields) → IsWellFormed r → IsBase (fields_of r) → Step (fields_of r) f → AllByRecursion (Member r) (above (fields_of r) (hyphenated r.variants) (parent_of f))
members_above r f well own step = some_value (parent_of f) (λ none. rw none tt) (λ g is. rw is (
    each_fields (Member r) (Step (fields_of r)) (λ h. with_each (hyphenated r.variants ∷ shorter (hyphenated r.variants)) (named (fields_of r) h)) (line 6 g)
    (λ h to_h. members_plain r (named (fields_of r) h) well (two_steps (fields_of r) h (named (fields_of r) h) to_h (named_step (fields_of r) h own to_h.base)))
    (line_steps 6 (fields_of r) g (two_steps (fields_of r) f g step (parent_step f g step.base is)))))

given_member : (r : Record) → IsWellFormed r → Step (fields_of r) (fields_of r) → (b : Bool) → AllByRecursion (Member r) (cond b (text_of (fields_of r) (rest_of r) ∷ []) [])
given_member r well step b = grind (arith, whole_member r (fields_of r) well step)

members : (r : Record) → IsWellFormed r → AllByRecursion (Member r) (chain_of r)
members r well =
    let f = fields_of r in
    let own = own_base r well in
    let first = no_step f own in
    let second = short_step f own in
    let third = two_steps f (short f) (named f (short f)) second (named_step f (short f) own second.base) in
    let with_rest = with_each (endings (hyphenated r.variants) (rest_of r)) (named f (short f)) in
    let parents = above f (hyphenated r.variants) (parent_of (short f)) in
    each-append (Member r) (given_form f (rest_of r)) (with_rest ++ parents) (given_member r well first (has_likely_script f && not (is_empty f.region)))
    (each-append (Member r) with_rest parents (members_with r (named f (short f)) well third) (members_above r (short f) well own second))

each_by : (P Q : List ℕ → Type 0) (xs : List (List ℕ)) → ((x : List ℕ) → P x → Q x) → AllByRecursion P xs → AllByRecursion Q xs
each_by P Q [] of_p all = tt
each_by P Q (x ∷ xs) of_p all = (of_p x all.0, each_by P Q xs of_p all.1)

-- the tag itself, or a member of the chain of the tag as it is read
abbrev TagOrMember : List ℕ → Record → List ℕ → Type 0
TagOrMember tag r member = (member ≡ tag) ⊎ Member (as_read r) member

chain_members : (tag : List ℕ) (chain : List (List ℕ)) (r : Record) → IsChain tag chain → Spells r tag → AllByRecursion (TagOrMember tag r) chain
chain_members tag chain r is spells =
    let written : (b : Bool) → AllByRecursion (TagOrMember tag r) (cond b [] (spell r ∷ [])) = λ b. grind (arith, spells.1) in
    let parents = each_by (Member (as_read r)) (TagOrMember tag r) (chain_of (as_read r)) (λ x m. inr m) (members (as_read r) (read_fits r spells.0)) in
    subst (AllByRecursion (TagOrMember tag r)) (sym (is.part r spells)) (each-append (TagOrMember tag r) (as_written r) (chain_of (as_read r)) (written (is_empty (mark_of r))) parents)

-- ---- the laws

pub normal_members : (tag : List ℕ) (chain : List (List ℕ)) → IsNormal tag → IsChain tag chain → AllByRecursion IsNormal chain
unfolding IsNormal
normal_members tag chain normal is =
    each_by (TagOrMember tag normal.0) (λ m. (q : Record) × Spells q m) chain
    (λ x is. elim is [
      | inl same ↦ subst (λ m. (q : Record) × Spells q m) (sym same) normal
      | inr m ↦ (m.q, m.spells)
    ]) (chain_members tag chain normal.0 is normal.1)

-- what holds of the record that was found, holds of each record
each_member : (P : Record → Record → Type 0) → ((r : Record) (x : List ℕ) (m : Member r x) → P r m.q) → EachMember P
each_member P of_member = λ tag chain is r spells.
    each_by (TagOrMember tag r) (λ x. (x ≡ tag) ⊎ EachRecord x (P (as_read r))) chain
    (λ x is. elim is [
      | inl same ↦ inl same
      | inr m ↦ inr (λ q also. subst (P (as_read r)) (spelled_once m.q q m.spells.0 also.0 (m.spells.1 ∙ sym also.1)) (of_member (as_read r) x m))
    ]) (chain_members tag chain r is spells)

pub in_one_script : EachMember IsInOneScript
in_one_script = each_member IsInOneScript (λ r x m. m.written)

pub adds_nothing : EachMember AddsNothing
adds_nothing = each_member AddsNothing (λ r x m. m.added)
