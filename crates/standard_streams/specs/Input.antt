-- What is handed back of the space that an input is read into.
use Rattle.std.specs.Prelude.{◌≡◌, ℕ, ◌≤◌, List, length}
use Rattle.std.specs.Borrow.{Bor, MutBor}

-- r is the beginning of the space s: it lies where s does, and is no longer
pub record IsFront (s : MutBor (List ℕ)) (r : Bor (List ℕ)) : Type 0 where
  pub lies : r.ref_ptr ≡ s.ref_ptr
  pub fits : length r.now ≤ length s.now
