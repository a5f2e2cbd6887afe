-- What each call promises, its number and every lent place; `leaves` of the definitions says what stands there afterwards.
use Rattle.std.specs.Prelude.{◌≡◌, ℕ, List, []}
use Rattle.definitions.specs.Tables.{Rule}
use Rattle.definitions.specs.Sessions.{lent_space, open_number, arrive_number, withdraw_number, replace_number, leaves, Open, Arrive, Withdraw, Replace}

-- `open_session`, by its entries and its exits
pub record OpenIs (C : ℕ) (owned : List ℕ) (r : Rule) (heading masks nodes states : List ℕ) (number : ℕ) (heading' masks' nodes' states' : List ℕ) : Type 0 where
  pub answered : number ≡ open_number C owned r (lent_space heading masks nodes states)
  pub left : lent_space heading' masks' nodes' states' ≡ leaves (Open C owned r) (lent_space heading masks nodes states)

-- `arrive`, which isn't lent the nodes
pub record ArriveIs (s : ℕ) (heading masks states : List ℕ) (number : ℕ) (heading' states' : List ℕ) : Type 0 where
  pub answered : number ≡ arrive_number s (lent_space heading masks [] states)
  pub left : lent_space heading' masks [] states' ≡ leaves (Arrive s) (lent_space heading masks [] states)

-- `withdraw`, which isn't lent the masks either
pub record WithdrawIs (heading states : List ℕ) (number : ℕ) (heading' states' : List ℕ) : Type 0 where
  pub answered : number ≡ withdraw_number (lent_space heading [] [] states)
  pub left : lent_space heading' [] [] states' ≡ leaves Withdraw (lent_space heading [] [] states)

-- `replace_rule`, which is lent neither the masks nor the states
pub record ReplaceIs (r : Rule) (heading nodes : List ℕ) (number : ℕ) (heading' nodes' : List ℕ) : Type 0 where
  pub answered : number ≡ replace_number r (lent_space heading [] nodes [])
  pub left : lent_space heading' [] nodes' [] ≡ leaves (Replace r) (lent_space heading [] nodes [])
