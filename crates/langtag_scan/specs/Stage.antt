-- Which subtags may follow which: the rules of RFC 5646 section 2.1, with one arm for each line of the grammar. Only
-- contracts of private functions cite this page.
use Rattle.std.specs.Prelude.{ℕ, ◌+◌, Bool, true, false, nat_lt, nat_le, List, [], ◌∷◌, length, Option, Some, None, if◌then◌else◌}
use Rattle.langtag_scan.specs.Class.{is_primary, is_extended, is_script, is_region, is_variant, is_extension_subtag, is_private_subtag, is_mark, is_singleton}

-- the part of a tag to which the last complete subtag belongs. The number in `Language` and `Extended` says how many of
-- the three possible extended subtags are used up. A primary subtag of four letters or more uses up all three
pub data Stage : Type 0 where
  Start : Stage  -- before the first subtag
  Language : ℕ → Stage  -- a primary subtag; so many places for extended ones are taken, all after four letters or more
  Extended : ℕ → Stage  -- an extended subtag, with so many places taken
  AfterScript : Stage
  AfterRegion : Stage
  AfterVariant : Stage
  AfterSingleton : Stage  -- whose extension needs a subtag
  InExtension : Stage
  AfterMark : Stage  -- the mark of a private use part, which needs a subtag
  InPrivate : Stage
  AfterFirstMark : Stage  -- a mark that begins the text, which needs a subtag
  InPrivateTag : Stage

-- whether a subtag is one byte that passes a test
abbrev pub is_one : (ℕ → Bool) → List ℕ → Bool
is_one test [] = false
is_one test (b ∷ []) = test b
is_one test (b ∷ c ∷ s) = false

-- the classes to which a subtag belongs; `short` says that it has at most three bytes
pub record Classes : Type 0 where
  pub primary : Bool
  pub extended : Bool
  pub script : Bool
  pub region : Bool
  pub variant : Bool
  pub extension_subtag : Bool
  pub private_subtag : Bool
  pub mark : Bool
  pub singleton : Bool
  pub short : Bool

-- the classes of a text; extended subtags may follow only a primary subtag that is `short`
abbrev pub classes_of : List ℕ → Classes
classes_of s = record {
  primary = is_primary s;
  extended = is_extended s;
  script = is_script s;
  region = is_region s;
  variant = is_variant s;
  extension_subtag = is_extension_subtag s;
  private_subtag = is_private_subtag s;
  mark = is_one is_mark s;
  singleton = is_one is_singleton s;
  short = nat_le (length s) 3;
}

-- the stage after a subtag of one byte, which begins an extension or the private use part
abbrev pub opened_by : Classes → Option Stage
opened_by c = if c.mark then Some AfterMark else if c.singleton then Some AfterSingleton else None

abbrev pub after_region_by : Classes → Option Stage
after_region_by c = if c.variant then Some AfterVariant else opened_by c

abbrev pub after_script_by : Classes → Option Stage
after_script_by c = if c.region then Some AfterRegion else after_region_by c

-- the stage after a subtag that follows the language; `taken` says how many of the three possible extended subtags are
-- used up
abbrev pub after_language_by : ℕ → Classes → Option Stage
after_language_by taken c =
    if c.extended then (if nat_lt taken 3 then Some (Extended (taken + 1)) else None)
    else if c.script then Some AfterScript
    else after_script_by c

-- the stage after one more subtag of a normal tag; the subtag has these classes (rule langtag)
abbrev pub next_by : Stage → Classes → Option Stage
next_by Start c = if c.primary then Some (Language (if c.short then 0 else 3)) else None
next_by (Language taken) c = after_language_by taken c
next_by (Extended taken) c = after_language_by taken c
next_by AfterScript c = after_script_by c
next_by AfterRegion c = after_region_by c
next_by AfterVariant c = after_region_by c
next_by AfterSingleton c = if c.extension_subtag then Some InExtension else None
next_by InExtension c = if c.extension_subtag then Some InExtension else opened_by c
next_by AfterMark c = if c.private_subtag then Some InPrivate else None
next_by InPrivate c = if c.private_subtag then Some InPrivate else None
next_by AfterFirstMark c = None
next_by InPrivateTag c = None

-- the stage after the first subtag of a tag, which is the mark if the whole tag is private use (rules langtag and
-- privateuse)
abbrev pub first_by : Classes → Option Stage
first_by c = if c.primary then Some (Language (if c.short then 0 else 3)) else if c.mark then Some AfterFirstMark else None

-- the stage after one more subtag of a tag
abbrev pub after_by : Stage → Classes → Option Stage
after_by Start c = first_by c
after_by AfterFirstMark c = if c.private_subtag then Some InPrivateTag else None
after_by InPrivateTag c = if c.private_subtag then Some InPrivateTag else None
after_by stage c = next_by stage c

-- the same functions, for the text of a subtag instead of its classes
abbrev pub next_stage : Stage → List ℕ → Option Stage
next_stage stage s = next_by stage (classes_of s)

abbrev pub after_stage : Stage → List ℕ → Option Stage
after_stage stage s = after_by stage (classes_of s)

-- whether a tag may end at this stage
abbrev pub may_end : Stage → Bool
may_end Start = false
may_end (Language taken) = true
may_end (Extended taken) = true
may_end AfterScript = true
may_end AfterRegion = true
may_end AfterVariant = true
may_end AfterSingleton = false
may_end InExtension = true
may_end AfterMark = false
may_end InPrivate = true
may_end AfterFirstMark = false
may_end InPrivateTag = true
