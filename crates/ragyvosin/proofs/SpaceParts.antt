-- What a call of `sessions` leaves, part by part (`open_session`, `arrive`, `withdraw`, `replace_rule`): the parts of `leaves`.
use mathlib.Core.Path.{◌≡◌, ap}
use mathlib.Core.List.{List}
use Prim.Native.Nat.{ℕ}
use Rattle.definitions.specs.Sessions.{Space, lent_space}

-- all of them
pub all_parts : (g : Space) (heading masks nodes states : List ℕ) → lent_space heading masks nodes states ≡ g →
    (heading ≡ g.heading) × ((masks ≡ g.masks) × ((nodes ≡ g.nodes) × (states ≡ g.states)))
all_parts g heading masks nodes states e =
    (ap (λ (h : Space). h.heading) e, (ap (λ (h : Space). h.masks) e, (ap (λ (h : Space). h.nodes) e, ap (λ (h : Space). h.states) e)))

-- those that an arrival or a withdrawal writes
pub written_parts : (g : Space) (heading masks nodes states : List ℕ) → lent_space heading masks nodes states ≡ g → (heading ≡ g.heading) × (states ≡ g.states)
written_parts g heading masks nodes states e = (ap (λ (h : Space). h.heading) e, ap (λ (h : Space). h.states) e)

-- those that a new rule writes
pub ruled_parts : (g : Space) (heading masks nodes states : List ℕ) → lent_space heading masks nodes states ≡ g → (heading ≡ g.heading) × (nodes ≡ g.nodes)
ruled_parts g heading masks nodes states e = (ap (λ (h : Space). h.heading) e, ap (λ (h : Space). h.nodes) e)
