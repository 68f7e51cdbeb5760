-- The loops that make a plan: one over a body's states, one over the filters.
use Rattle.std.specs.Prelude.{◌≡◌, refl, false, List, [], ◌∷◌, ◌++◌, ℕ, ◌+◌, ◌*◌, ◌<◌, ◌≤◌, length, get_or}
use Rattle.std.proofs.Common.{◌∙◌, sym, add-one, add-zero, arith, ap, length-append, append_assoc, append-nil}
use Rattle.std.proofs.lemmas.List.{map-append}
use Rattle.lists.specs.Below.{up_to}
use Rattle.lists.specs.Below.Laws.{up_to_long, up_to_same, up_to_add}
use Rattle.lists.specs.Checks.{row_fails}
use Rattle.lists.specs.Checks.Laws.{none_fails, row_passes}
use Rattle.rules.specs.State.{State, TRUE}
use Rattle.rules.specs.Book.{most_states, state_width, filter_count, body_start, body_size, states_before, book_checks, book_refusal, state_at, states_of_first, states_of}
use Rattle.rules.specs.Leading.{Higher}
use Rattle.rules.specs.Leading.{Inside}
use Rattle.rules.proofs.Match.Settle.{Fine}
use Rattle.rules.proofs.Book.Fine.{states_fine}
use Rattle.book_plan.specs.declared.State as plan
use Rattle.book_plan.specs.Plan.{meant_state, state_in, state_count, states_in, Planned, PlanOf}
use Rattle.book_plan.proofs.Laws.{inside_more, states_long, states_at}
use Rattle.book_contents.specs.BookAccepted.{BookAccepted, accepted, states_rise, body_inside}
use Rattle.book_planner.specs.Leads.{leads_well_lem}

-- the n states of the body at a place, whose state 0 is number base of the book
abbrev pub body_states : List ℕ → ℕ → ℕ → ℕ → List State
body_states b base at n = up_to (λ i. state_at b base (at + state_width * i)) n

-- each of them leads to higher states of a book
abbrev pub LeadsWell : List ℕ → ℕ → ℕ → ℕ → Type 0
LeadsWell b base at n = (i : ℕ) → i < n → Higher (state_at b base (at + state_width * i)) (base + i) × Inside (state_at b base (at + state_width * i)) most_states

-- ── one body: i of its states are kept ──
pub record Body (b : List ℕ) (at : ℕ) (p₀ p : List plan.State) (i : ℕ) : Type 0 where
  pub long : length p ≡ length p₀ + i
  pub done : states_in p ≡ states_in p₀ ++ body_states b (length p₀) at i

module _ (b : List ℕ) (at : ℕ) (p₀ : List plan.State) where
  pub body_none : Body b at p₀ p₀ 0
  unfolding up_to
  body_none = record { long = rw add-zero; done = sym (append-nil (states_in p₀)) }

  one_more : (i : ℕ) → body_states b (length p₀) at (i + 1) ≡ body_states b (length p₀) at i ++ state_at b (length p₀) (at + state_width * i) ∷ []
  unfolding up_to
  one_more i = rw add-zero at (up_to_add (λ j. state_at b (length p₀) (at + state_width * j)) i 1)

  -- the state is read at its place
  pub body_more : (p : List plan.State) (i base place : ℕ) (s : plan.State) → Body b at p₀ p i → base ≡ length p₀ → place ≡ at + state_width * i →
      meant_state s ≡ state_at b base place → Body b at p₀ (p ++ s ∷ []) (i + 1)
  body_more p i base place s c f g e =
      let own : meant_state s ≡ state_at b (length p₀) (at + state_width * i) = rw (f, g) at e in
      record {
        long = rw length-append (omega (arith, c.long));
        done = map-append meant_state p (s ∷ []) ∙ rw (one_more i, c.done, own) (append_assoc (states_in p₀) (body_states b (length p₀) at i) _);
      }

  pub body_all : (p : List plan.State) (i n : ℕ) → Body b at p₀ p i → i ≤ n → n ≤ i → states_in p ≡ states_in p₀ ++ body_states b (length p₀) at n
  body_all p i n c h u = let e : n ≡ i = omega arith in rw e c.done

pub ruleset body_laws = (body_none, body_more, body_all)

-- ── the filters: the states of the first i filters are kept ──
pub record Making (b : List ℕ) (p : List plan.State) (i : ℕ) : Type 0 where
  pub ok : book_refusal b ≡ 0
  pub within : i ≤ filter_count b
  pub count : length p ≡ states_before b i
  pub states : states_in p ≡ states_of_first b i

pub making_none : (b : List ℕ) → book_refusal b ≡ 0 → Making b [] 0
unfolding states_of_first states_before
making_none b ok = record { ok = ok; within = omega arith; count = refl; states = refl }

module _ (b : List ℕ) (p : List plan.State) (i : ℕ) (c : Making b p i) (h : i < filter_count b) where
  a : BookAccepted b
  a = accepted b c.ok

  module _ {s n : ℕ} (start : s ≡ body_start b i) (size : n ≡ body_size b i) where
    pub making_few : length p + n ≤ most_states
    making_few = omega (arith, a.states, c.count, states_rise b i (filter_count b) h)

    pub making_room : s + state_width * n ≤ length b
    making_room = omega (arith, body_inside b a i h)

    pub making_leads : LeadsWell b (length p) s n
    making_leads j u =
        let v : j < body_size b i = omega arith in
        let t = leads_well_lem b (length p) (body_start b i + state_width * j) j (body_size b i) (a.rows i j h v) (a.leads i j h v) in
        rw start (t.0, inside_more _ (length p + body_size b i) most_states (omega (arith, making_few)) t.1)

    read : body_states b (length p) s n ≡ body_states b (states_before b i) (body_start b i) (body_size b i)
    read = rw size (up_to_same _ _ (body_size b i) (λ j u. rw (c.count, start)))

    pub making_more : (q : List plan.State) → states_in q ≡ states_in p ++ body_states b (length p) s n → Making b q (i + 1)
    unfolding states_of_first states_before
    making_more q e = record {
      ok = c.ok;
      within = omega arith;
      count = sym (states_long q) ∙ ap length e ∙ rw (length-append, states_long, up_to_long, add-one, c.count, size);
      states = e ∙ rw (add-one, c.states, read);
    }

module _ (b : List ℕ) (p : List plan.State) (i : ℕ) (c : Making b p i) where
  fine : Fine (states_of b)
  unfolding book_refusal
  fine =
      let passes : (j : ℕ) → row_fails (book_checks b) j ≡ false = row_passes (book_checks b) (none_fails (book_checks b) refl c.ok) in
      states_fine b (passes 6) (passes 7)

  pub making_all : filter_count b ≤ i → PlanOf p b
  unfolding states_of
  making_all h = record { planned = planned; states = all }
    where
      all : states_in p ≡ states_of b
      all = let e : i ≡ filter_count b = omega (arith, c.within) in c.states ∙ ap (states_of_first b) e

      long : length (states_of b) ≡ state_count p
      long = ap length (sym all) ∙ states_long p

      at_state : (k : ℕ) → k < state_count p → get_or (states_of b) k TRUE ≡ state_in p k
      at_state k u = ap (λ (l : List State). get_or l k TRUE) (sym all) ∙ states_at p k u

      planned : Planned p
      planned = record {
        few = let e : i ≡ filter_count b = omega (arith, c.within) in omega (arith, c.count, ap (states_before b) e, (accepted b c.ok).states);
        higher = λ k u. rw at_state at (fine.higher k (rw long u));
        inside = λ k u. rw (at_state, long) at (fine.inside k (rw long u));
      }

pub ruleset make_laws = (making_none, making_few, making_room, making_leads, making_more, making_all)
