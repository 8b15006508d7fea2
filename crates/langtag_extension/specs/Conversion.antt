-- What the conversion of a byte or a character into a singleton returns.
use Rattle.std.specs.Prelude.{◌≡◌, ℕ, Result, IfOk, IfErr, is_ok}
use Rattle.langtag_scan.specs.Grammar.{is_singleton}
use Rattle.langtag_extension.specs.declared.singleton.Singleton.{Singleton}
use Rattle.langtag_extension.specs.declared.singleton.InvalidSingleton.{InvalidSingleton}
use Rattle.langtag_extension.specs.Text.{singleton_byte}

-- a byte or character that is a singleton gives the singleton with this byte; anything else is returned in the error
pub record ConvertsToSingleton (c : ℕ) (result : Result Singleton (InvalidSingleton ℕ)) : Type 0 where
  pub accepts : is_ok result ≡ is_singleton c
  pub same_byte : IfOk result (λ singleton. singleton_byte singleton ≡ c)
  pub given_back : IfErr result (λ error. error.0 ≡ c)
