-- Laws of the locale to format with: a tag that was chosen for a range, with the region and the keywords that the range asks for.
use Rattle.std.specs.Prelude.{◌≡◌, ℕ, false, not, List, [], ◌⊎◌, IfSome, IsTrue, None, Some, codes, if◌then◌else◌, filter, flat_map, map, unwrap_or}
use Rattle.langtag_scan.specs.Prelude.{list_any}
use Rattle.langtag_scan.specs.Grammar.{Alike, EachRecord, are_alike, Extension, Record, fold_text, join, subtags}
use Rattle.langtag.specs.Definitions.{are_alike_bytes, repeat}
use Rattle.langtag_fields.specs.Registered.{is_registered_region, is_registered_script}
use Rattle.langtag_cldr.specs.Definitions.{known}
use Rattle.langtag_keyword.specs.Edit.{with_changed_u}
use Rattle.langtag_keyword.specs.Form.{is_of, unicode_value}
use Rattle.langtag_keyword.specs.Keywords.{before_key, is_key, subtags_of, value_of}
use Rattle.langtag_likely.specs.Maximal.{maximal_record}
use Rattle.langtag_locale.specs.Resolved.{IsKept, IsLocaleOf, IsResolved, resolved_record, wish_for, wish_of}

-- what holds of the record of the tag, and of the record of the locale to format with
abbrev pub EachResolved : (Record → Record → Type 0) → Type 0
EachResolved P = (range tag resolved : List ℕ) → IsResolved range tag resolved → EachRecord tag (λ r. EachRecord resolved (P r))

-- ---- what stays

-- the attributes of each `u`
abbrev pub attributes : List Extension → List (List ℕ)
attributes es = flat_map (λ e. if is_of 117 e then before_key is_key e.subtags else []) es

-- the extensions other than `u`
abbrev pub other_extensions : List Extension → List Extension
other_extensions es = filter (λ e. not (is_of 117 e)) es

-- the second record has the parts of the first, byte for byte, except the script, the region and the keywords of `u`
pub record KeepsParts (r q : Record) : Type 0 where
  pub primary : q.primary ≡ r.primary
  pub extended : q.extended ≡ r.extended
  pub variants : q.variants ≡ r.variants
  pub attributes : attributes q.extensions ≡ attributes r.extensions
  pub others : other_extensions q.extensions ≡ other_extensions r.extensions
  pub private_use : q.private_use ≡ r.private_use

-- ---- one script

-- the script of the maximal form, or the empty text if there is none; `Zzzz` counts as no script
abbrev pub full_script : Record → List ℕ
full_script r = known (codes "Zzzz") (unwrap_or (maximal_record r).script [])

-- the maximal forms have the same language and, if it is known for the first record, the same script
pub record IsInOneScript (r q : Record) : Type 0 where
  pub primary : (maximal_record q).primary ≡ (maximal_record r).primary
  pub extended : (maximal_record q).extended ≡ (maximal_record r).extended
  pub script : (full_script r ≡ []) ⊎ Alike (full_script q) (full_script r)

-- ---- what the range asks for

-- the canonical value of a key
abbrev pub canonical_value : List ℕ → List (List ℕ) → List (List ℕ)
canonical_value key value = map fold_text (subtags (unicode_value key (join value)))

-- the record `q` has what a Unicode locale identifier asks of the record `r`: its region, ignoring case, and each of its
-- keywords
pub record HasWish (l r q : Record) : Type 0 where
  pub region : ((wish_for r (wish_of l)).region ≡ []) ⊎ Alike (unwrap_or q.region []) (wish_for r (wish_of l)).region
  pub keywords :
      (key : List ℕ) (value : List (List ℕ)) → fold_text key ≡ key → value_of is_key key (subtags_of 117 l) ≡ Some value →
      value_of is_key key (subtags_of 117 q) ≡ Some (canonical_value key value)

-- nothing is asked of the tag, or the locale to format with has what a Unicode locale identifier of the range asks for
abbrev pub IsServed : List ℕ → List ℕ → List ℕ → Type 0
IsServed range tag resolved =
    IsKept range tag ⊎ ((locale : List ℕ) × IsLocaleOf range locale × EachRecord locale (λ l. EachRecord tag (λ r. EachRecord resolved (HasWish l r))))

-- ---- what is put back

-- the record `q` with the script, the region and the subtags of `u` of another
abbrev pub put_back : Record → Record → Record
put_back r q = record q { script = r.script; region = r.region; extensions = with_changed_u (λ _. subtags_of 117 r) q.extensions }

-- whether `u` is the extension that is put among the others: it has a lowercase singleton, stands before the first greater
-- singleton, and is the only `u`
abbrev pub IsInPlace : Record → Type 0
IsInPlace r = with_changed_u (λ _. subtags_of 117 r) (other_extensions r.extensions) ≡ r.extensions

-- putting them back restores the record, if its `u` is in its place
abbrev pub ComesBack : Record → Record → Type 0
ComesBack r q = IsInPlace r → put_back r q ≡ r

-- a range asks for no region and no keyword
abbrev pub AsksNothing : List ℕ → List ℕ → Type 0
AsksNothing range tag =
    (locale : List ℕ) → IsLocaleOf range locale →
    EachRecord locale (λ l. EachRecord tag (λ r. ((wish_for r (wish_of l)).region ≡ []) × (list_any is_key (subtags_of 117 l) ≡ false)))

-- ---- repeats, and valid tags

-- no variant and no singleton is repeated, ignoring case (RFC 5646 section 2.2.9)
pub record RepeatsNothing (r : Record) : Type 0 where
  pub variants : repeat are_alike r.variants ≡ None
  pub singletons : repeat are_alike_bytes (map (λ e. e.singleton) r.extensions) ≡ None

-- the second record repeats nothing if the first does not
abbrev pub RepeatsNoMore : Record → Record → Type 0
RepeatsNoMore r q = RepeatsNothing r → RepeatsNothing q

-- the script and the region of the record, if there are any, are registered
pub record HasRegisteredPlace (r : Record) : Type 0 where
  pub script : IfSome r.script (λ s. IsTrue (is_registered_script s))
  pub region : IfSome r.region (λ s. IsTrue (is_registered_region s))

-- ---- the same range again

-- asking for the same again changes nothing
abbrev pub IsSettled : Record → Record → Type 0
IsSettled l r =
    let q : Record = resolved_record (wish_for r (wish_of l)) r in
    resolved_record (wish_for q (wish_of l)) q ≡ q
