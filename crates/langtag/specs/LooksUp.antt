-- What looking up bytes among the grandfathered tags returns.
use Rattle.std.specs.Prelude.{◌≡◌, ◌↔◌, ℕ, List, Result, IsTrue, IfOk, IfErr, is_ok}
use Rattle.langtag_scan.specs.Prelude.{Bor}
use Rattle.langtag.specs.declared.grandfathered.GrandfatheredLangTag.{GrandfatheredLangTag}
use Rattle.langtag.specs.declared.grandfathered.InvalidGrandfatheredTag.{InvalidGrandfatheredTag}
use Rattle.langtag.specs.Registered.{index_of, IsGrandfatheredAt, IsGrandfathered}

-- the grandfathered tag that equals the bytes, ignoring case; otherwise the error contains the bytes themselves
pub record LooksUp (bytes : Bor (List ℕ)) (result : Result GrandfatheredLangTag (InvalidGrandfatheredTag (Bor (List ℕ)))) : Type 0 where
  pub accepts : IsTrue (is_ok result) ↔ IsGrandfathered bytes.now
  pub same_tag : IfOk result (λ tag. IsGrandfatheredAt (index_of tag) bytes.now)
  pub given_back : IfErr result (λ error. error.0 ≡ bytes)
