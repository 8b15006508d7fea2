use Rattle.langtag_scan.proofs.Prelude.{◌≡◌, ◌≤◌, ◌<◌, ◌-◌, length, drop, take, get_or, IsTrue, list_all}
use Rattle.langtag_scan.specs.Subtags.{segments}
use Rattle.langtag_extension.specs.ExtensionTexts.{goes_on}
use Rattle.langtag_extension.proofs.extension_texts.first_extension_end.Given as goal

-- up to the index, which is a hyphen or the end, no subtag but the first is of one byte
abbrev pub invariant-loop-end : goal.invariant-loop-end
invariant-loop-end l = record {
  within : l.end ≤ length l.text;
  hyphen : l.end < length l.text → get_or l.text l.end 0 ≡ 45;
  one : IsTrue (list_all goes_on (drop 1 (segments (take l.end l.text))));
}

abbrev pub decreases-loop-end : goal.decreases-loop-end
decreases-loop-end l = length l.text - l.end
