-- The plan: an accepted book's states, as the code holds them; their successors are numbered through the book.
use Rattle.std.specs.Prelude.{◌≡◌, List, ℕ, ◌<◌, ◌≤◌, length, get_or, map}
use Rattle.rules.specs.State.{compares, State, TRUE, LEAF, AND, OR, NOT, STEP}
use Rattle.rules.specs.Book.{most_states, states_of, Meaning}
use Rattle.rules.specs.Value.{text_value}
use Rattle.rules.specs.Leading.{Higher}
use Rattle.rules.specs.Leading.{Inside}
use Rattle.number_text.specs.Meant.{meant_relation}
use Rattle.book_plan.specs.declared.State as plan
use Rattle.book_plan.specs.declared.State.TheVariants.{True, Leaf, And, Or, Not, Step}

-- the room for a plan of any accepted book
abbrev pub plan_room : ℕ
plan_room = most_states

-- the paper's state for each of the code's
abbrev pub meant_state : plan.State → State
meant_state True = TRUE
meant_state (Leaf r c) = LEAF (compares (meant_relation r) c)
meant_state (And i j) = AND i j
meant_state (Or i j) = OR i j
meant_state (Not i) = NOT i
meant_state (Step l s) = STEP l s

-- state i of the plan p; how many it has: its length says it; all of them
abbrev pub state_in : List plan.State → ℕ → State
state_in p i = meant_state (get_or p i True)

abbrev pub state_count : List plan.State → ℕ
state_count p = length p

abbrev pub states_in : List plan.State → List State
states_in p = map meant_state p

-- what a plan means to a message: its states, and how a text is read
abbrev pub meaning_in : List plan.State → Meaning
meaning_in p = record { states = states_in p; reads = text_value }

-- p is a plan
pub record Planned (p : List plan.State) : Type 0 where
  pub few : state_count p ≤ most_states
  pub higher : (k : ℕ) → k < state_count p → Higher (state_in p k) k
  pub inside : (k : ℕ) → k < state_count p → Inside (state_in p k) (state_count p)

-- the same of any of its first states, which may lead to states that are still to come
pub record WellLed (p : List plan.State) : Type 0 where
  pub few : state_count p ≤ most_states
  pub higher : (k : ℕ) → k < state_count p → Higher (state_in p k) k
  pub inside : (k : ℕ) → k < state_count p → Inside (state_in p k) most_states

-- this plan is that book's
pub record PlanOf (p : List plan.State) (book : List ℕ) : Type 0 where
  pub planned : Planned p
  pub states : states_in p ≡ states_of book
