-- Text in lent bytes.
-- Assumes nothing.
use Rattle.std.specs.Prelude.{◌≡◌, List, ℕ, ◌+◌, length}
use Rattle.std.proofs.lemmas.List.Edits.{sets}
use Rattle.text.specs.declared.lent.Text.{Text}

-- of these bytes, those from place `at` on become the text, which ends at place `next`; every other stays as it was
pub record Placed (bytes : List ℕ) (at : ℕ) (text after : List ℕ) (next : ℕ) : Type 0 where
  pub puts : after ≡ sets bytes at text
  pub ends : next ≡ at + length text

-- the text is put behind what was put before, into the same lent bytes
pub record Puts (before : Text) (text : List ℕ) (after : Text) : Type 0 where
  pub placed : Placed before.bytes.now before.at text after.bytes.now after.at
  pub same_reference : after.bytes.ghost_name ≡ before.bytes.ghost_name
