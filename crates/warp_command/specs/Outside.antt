-- What is had of the texts outside.
use Rattle.std.specs.Prelude.{◌≡◌, ℕ, List, Bool, true, ◌||◌, Result, Err, Vec, codes}
use Rattle.std.specs.Str.{bytes_eq}
use Rattle.std.specs.declared.alloc.Global.{Global}
use Rattle.warp_command.specs.declared.texts.FetchFault.{FetchFault}
use Rattle.warp_command.specs.declared.texts.FetchFault.TheVariants.{Unreadable}

-- `-` is the name of standard input
abbrev pub is_input : List ℕ → Bool
is_input name = bytes_eq name (codes "-")

-- standard input is had once: whoever asks for it again gets none
pub record GivesOnce (was_given : Bool) (name : List ℕ) (result : Result (Vec ℕ Global) FetchFault) (is_given : Bool) : Type 0 where
  pub again : is_input name ≡ true → was_given ≡ true → result ≡ Err Unreadable
  pub given : is_given ≡ (was_given || is_input name)
