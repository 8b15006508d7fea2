-- What the recogniser knows about the bytes that it has read. Only contracts of private functions cite this page.
use Rattle.std.specs.Prelude.{◌≡◌, ℕ, ◌+◌, ◌≤◌, max, true, List, [], ◌∷◌, ◌++◌, length, slice_index, Option, Some, None, if◌then◌else◌}
use Rattle.langtag_scan.specs.Prelude.{option_map_or}
use Rattle.langtag_scan.specs.Class.{are_letters, are_alphanumeric}
use Rattle.langtag_scan.specs.Subtags.{segments}
use Rattle.langtag_scan.specs.Tag.{IsNormal, IsPrivate}
use Rattle.langtag_scan.specs.Stage.{Stage, Start, Language, Extended, AfterScript, AfterRegion, AfterVariant, AfterSingleton, InExtension, AfterMark, InPrivate, AfterFirstMark, InPrivateTag, after_stage, may_end}
use Rattle.langtag_scan.specs.declared.ends.Ends.{Ends}
use Rattle.langtag_scan.specs.declared.finding.Finding.{Finding}
use Rattle.langtag_scan.specs.declared.finding.Finding.TheVariants.{Normal, PrivateUse}

-- ---- ends

abbrev pub all_at : ℕ → Ends
all_at p = record { language = p; script = p; region = p; variants = p; extensions = p; whole = p }

-- the ends after one more subtag, which leads to this stage and ends at index p
abbrev pub end_at : Stage → ℕ → Ends → Ends
end_at Start p e = all_at p
end_at (Language taken) p e = all_at p
end_at (Extended taken) p e = all_at p
end_at AfterScript p e = record { language = e.language; script = p; region = p; variants = p; extensions = p; whole = p }
end_at AfterRegion p e = record { language = e.language; script = e.script; region = p; variants = p; extensions = p; whole = p }
end_at AfterVariant p e = record { language = e.language; script = e.script; region = e.region; variants = p; extensions = p; whole = p }
end_at AfterSingleton p e = record { language = e.language; script = e.script; region = e.region; variants = e.variants; extensions = p; whole = p }
end_at InExtension p e = record { language = e.language; script = e.script; region = e.region; variants = e.variants; extensions = p; whole = p }
end_at AfterMark p e = record { language = e.language; script = e.script; region = e.region; variants = e.variants; extensions = e.extensions; whole = p }
end_at InPrivate p e = record { language = e.language; script = e.script; region = e.region; variants = e.variants; extensions = e.extensions; whole = p }
end_at AfterFirstMark p e = record { language = e.language; script = e.script; region = e.region; variants = e.variants; extensions = e.extensions; whole = p }
end_at InPrivateTag p e = record { language = e.language; script = e.script; region = e.region; variants = e.variants; extensions = e.extensions; whole = p }

-- the ends of the parts, computed from a list that has the last end noted for each part, or 0 for an absent part. An
-- absent part ends where the previous part ends
abbrev pub ends_at : List ℕ → ℕ → Ends
ends_at places len = record {
  language = slice_index places 0;
  script = max (slice_index places 1) (slice_index places 0);
  region = max (slice_index places 2) (max (slice_index places 1) (slice_index places 0));
  variants = max (slice_index places 3) (max (slice_index places 2) (max (slice_index places 1) (slice_index places 0)));
  extensions = max (slice_index places 4) (max (slice_index places 3) (max (slice_index places 2) (max (slice_index places 1) (slice_index places 0))));
  whole = len;
}

-- the index at which the next subtag ends; a hyphen comes before that subtag, except at the start of the text
abbrev pub index_after : Stage → Ends → List ℕ → ℕ
index_after Start e s = length s
index_after _ e s = e.whole + 1 + length s

-- ---- what is found

-- what is found if the text ends at a stage, with these ends
abbrev pub found_by : Stage → Ends → Finding
found_by InPrivateTag ends = PrivateUse
found_by _ ends = Normal ends

-- what is found if exactly these subtags still follow, or none if the text is neither a normal tag nor a private use
-- tag
unfoldable pub outcome : Stage → Ends → List (List ℕ) → Option Finding
outcome stage e [] = if may_end stage then Some (found_by stage e) else None
outcome stage e (s ∷ ss) = option_map_or (λ after. outcome after (end_at after (index_after stage e s) e) ss) (after_stage stage s) None

abbrev pub outcome_of : List ℕ → Option Finding
outcome_of text = outcome Start (all_at 0) (segments text)

-- ---- the prefix that was read

-- the bytes of a subtag so far: at most eight letters and digits, and only letters if it is the first subtag
pub record IsBegun (stage : Stage) (s : List ℕ) : Type 0 where
  pub short : length s ≤ 8
  pub alphanumeric : are_alphanumeric s ≡ true
  pub letters : stage ≡ Start → are_letters s ≡ true

-- the prefix p, which is empty or ends with a hyphen, has led to this stage and these ends
pub record Reads (p : List ℕ) (stage : Stage) (e : Ends) : Type 0 where
  pub same : (u : List ℕ) → outcome_of (p ++ u) ≡ outcome stage e (segments u)
  pub index : index_after stage e [] ≡ length p

-- no normal tag and no private use tag begins with p
pub record HasStopped (p : List ℕ) : Type 0 where
  pub not_normal : (u : List ℕ) → IsNormal (p ++ u) → ⊥
  pub not_private : (u : List ℕ) → IsPrivate (p ++ u) → ⊥

-- the text p is neither a normal tag nor a private use tag
pub record IsRefused (p : List ℕ) : Type 0 where
  pub not_normal : IsNormal p → ⊥
  pub not_private : IsPrivate p → ⊥
