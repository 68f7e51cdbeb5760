-- Laws of a plan: what each kind of state means; how many states it has; and what it means.
use Rattle.std.specs.Prelude.{◌≡◌, refl, List, ℕ, ℤ, ◌<◌, ◌≤◌, length, get_or}
use Rattle.std.proofs.Common.{ap, arith}
use Rattle.std.proofs.lemmas.List.{length-map, get_or-map}
use Rattle.rules.specs.State.{compares, State, TRUE, LEAF, AND, OR, NOT, STEP}
use Rattle.rules.specs.Book.{most_states, meaning_of}
use Rattle.rules.specs.Value.{text_value}
use Rattle.rules.specs.Leading.{Inside}
use Rattle.number_text.specs.declared.Relation.{Relation}
use Rattle.number_text.specs.Meant.{meant_relation}
use Rattle.book_plan.specs.declared.State as plan
use Rattle.book_plan.specs.declared.State.TheVariants.{True, Leaf, And, Or, Not, Step}
use Rattle.book_plan.specs.Plan.{meant_state, state_in, state_count, states_in, meaning_in, Planned, WellLed, PlanOf}

-- ── laws ──
-- it means what the book means
pub plan_means : (p : List plan.State) (book : List ℕ) → PlanOf p book → meaning_in p ≡ meaning_of book
plan_means p book h = ap (λ (b : List State). record { states = b; reads = text_value }) h.states

pub state_true : meant_state True ≡ TRUE
state_true = refl

pub state_leaf : (r : Relation) (c : ℤ) → meant_state (Leaf r c) ≡ LEAF (compares (meant_relation r) c)
state_leaf r c = refl

pub state_and : (i j : ℕ) → meant_state (And i j) ≡ AND i j
state_and i j = refl

pub state_or : (i j : ℕ) → meant_state (Or i j) ≡ OR i j
state_or i j = refl

pub state_not : (i : ℕ) → meant_state (Not i) ≡ NOT i
state_not i = refl

pub state_step : (l s : ℕ) → meant_state (Step l s) ≡ STEP l s
state_step l s = refl

pub states_long : (p : List plan.State) → length (states_in p) ≡ state_count p
states_long p = length-map p meant_state

pub states_at : (p : List plan.State) (k : ℕ) → k < state_count p → get_or (states_in p) k TRUE ≡ state_in p k
states_at p k h = get_or-map meant_state p k True TRUE h

-- inside a part of the states is inside all of them
pub inside_more : (s : State) (m n : ℕ) → m ≤ n → Inside s m → Inside s n
inside_more TRUE m n h e = tt
inside_more (LEAF t) m n h e = tt
inside_more (AND i j) m n h e = (omega arith, omega arith)
inside_more (OR i j) m n h e = (omega arith, omega arith)
inside_more (NOT i) m n h e = omega arith
inside_more (STEP l s) m n h e = omega arith

pub planned_leads : (p : List plan.State) → Planned p → WellLed p
planned_leads p q = record { few = q.few; higher = q.higher; inside = λ k h. inside_more (state_in p k) (state_count p) most_states q.few (q.inside k h) }
