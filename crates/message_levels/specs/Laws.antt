-- Laws of work on one level: what the workspace is when a level that was lent is back, what the level then holds, and that all else stays.
use Rattle.std.specs.Prelude.{ℕ, ◌+◌, ◌-◌, ◌*◌, ◌≤◌, ◌<◌, ◌≡◌, refl, List, ◌++◌, length, get_or, take, drop, set, replicate}
use Rattle.std.proofs.Common.{sym, ◌∙◌, arith, length-set, length-append, length-drop, get_or-append-add, get_or-take, get_or-drop, get_or-set_same, get_or-set_other, take-take, take_at, length-take-le}
use Rattle.std.proofs.Math.Path.{ap}
use Rattle.std.proofs.Math.Decide.{dec_lt}
use Rattle.std.proofs.lemmas.List.{length-replicate, take-set-le}
use Rattle.lists.specs.Parts.{part}
use Rattle.lists.specs.Parts.Laws.{part_lent, part_back, part_long, patch_long, patch_same, patch_below, patch_above, patch_past}
use Rattle.rules.specs.Message.{Level}
use Rattle.rules.specs.Sets.{set_width, no_states, either}
use Rattle.rules.proofs.Sets.Laws.{either_long}
use Rattle.rules.specs.Memory.{question_width, key_of, question_in}
use Rattle.rules.proofs.Memory.Key.{key_of_lem, key_asks}
use Rattle.rules.specs.Run.{level_width, workspace_width}
use Rattle.message_levels.specs.Level.{label_place, stage_place, level_at, with_level, HasLevel, label_in, stage_in, set_at, asks_at, level_of, opened, staged, joined, opened_at, staged_at, joined_at, OneLevel}

-- ── a level's numbers stay as many ──
opened_long : (x : ℕ) → length (opened x) ≡ level_width
unfolding opened
opened_long x = simp (length-set, length-replicate)

staged_long : (l : List ℕ) (s : ℕ) → length l ≡ level_width → length (staged l s) ≡ level_width
unfolding staged
staged_long l s h = simp (length-set, h)

joined_long : (l a : List ℕ) → length l ≡ level_width → length (joined l a) ≡ level_width
unfolding joined
joined_long l a h = simp (length-append, either_long, length-drop, h)

-- ── the work on a level that is lent ──
pub opened_is : (l e : List ℕ) (x : ℕ) → length l ≡ level_width → e ≡ replicate (length l) 0 → set e label_place x ≡ opened x
unfolding opened
opened_is l e x h k = rw (k, h)

pub staged_is : (l : List ℕ) (s : ℕ) → set l stage_place s ≡ staged l s
unfolding staged
staged_is l s = refl

-- `&mut level[0..SET]`, joined and back
pub joined_is : (l a e : List ℕ) → e ≡ either (take (set_width - 0) (drop 0 l)) a → take 0 l ++ (e ++ drop (set_width - 0) (drop 0 l)) ≡ joined l a
unfolding joined
joined_is l a e h = rw h

-- ── parts of the workspace ──
-- a level's set and label, as they stand, are the numbers of what it asks
pub question_lent_lem : (ws : List ℕ) (d : ℕ) → HasLevel ws d → take (level_width * d + question_width - level_width * d) (drop (level_width * d) ws) ≡ key_of (asks_at ws d)
unfolding set_at part
question_lent_lem ws d has =
    let l : List ℕ = drop (level_width * d) ws in
    let w : List ℕ = part ws (level_width * d) question_width in
    let a : get_or (take question_width l) label_place 0 ≡ label_in ws d = get_or-take question_width l label_place 0 (omega arith) ∙ get_or-drop (level_width * d) ws label_place 0 in
    let q : question_in w ≡ asks_at ws d = rw (take-take set_width question_width l (omega arith), a) refl in
    part_lent ws (level_width * d) question_width ∙ sym (key_of_lem w (part_long ws (level_width * d) question_width (omega arith))) ∙ ap key_of q

pub set_lent : (ws : List ℕ) (d : ℕ) → take (level_width * d + set_width - level_width * d) (drop (level_width * d) ws) ≡ set_at ws d
unfolding set_at
set_lent ws d = part_lent ws (level_width * d) set_width

pub levels_clear : (ws l : List ℕ) → workspace_width ≤ length ws → l ≡ replicate (length (take (workspace_width - 0) (drop 0 ws))) 0 →
    take 0 ws ++ (l ++ drop (workspace_width - 0) (drop 0 ws)) ≡ replicate workspace_width 0 ++ drop workspace_width ws
levels_clear ws l h e = rw (e, length-take-le workspace_width ws h) refl

-- ── a level lent, `&mut workspace[a..a + LEVEL]`, and back ──
abbrev lent : List ℕ → ℕ → List ℕ
lent ws d = take (level_width * d + level_width - level_width * d) (drop (level_width * d) ws)

abbrev back : List ℕ → ℕ → List ℕ → List ℕ
back ws d l = take (level_width * d) ws ++ (l ++ drop (level_width * d + level_width - level_width * d) (drop (level_width * d) ws))

module _ (ws : List ℕ) (d : ℕ) (has : HasLevel ws d) where
  level_long : length (level_at ws d) ≡ level_width
  level_long = part_long ws (level_width * d) level_width (omega arith)

  pub lent_long : length (lent ws d) ≡ level_width
  lent_long = ap length (part_lent ws (level_width * d) level_width) ∙ level_long

  -- f is what the work makes of it
  level_back : (f : List ℕ → List ℕ) (l : List ℕ) → length (f (level_at ws d)) ≡ level_width → l ≡ f (lent ws d) → back ws d l ≡ with_level ws d (f (level_at ws d))
  level_back f l g e = part_back ws l (f (level_at ws d)) (level_width * d) level_width (e ∙ ap f (part_lent ws (level_width * d) level_width)) g

  pub opened_back : (l : List ℕ) (x : ℕ) → l ≡ opened x → back ws d l ≡ opened_at ws d x
  unfolding opened_at
  opened_back l x e = level_back (λ y. opened x) l (opened_long x) e

  pub staged_back : (l : List ℕ) (s : ℕ) → l ≡ staged (lent ws d) s → back ws d l ≡ staged_at ws d s
  unfolding staged_at
  staged_back l s e = level_back (λ y. staged y s) l (staged_long (level_at ws d) s level_long) e

  pub joined_back : (l a : List ℕ) → l ≡ joined (lent ws d) a → back ws d l ≡ joined_at ws d a
  unfolding joined_at
  joined_back l a e = level_back (λ y. joined y a) l (joined_long (level_at ws d) a level_long) e

-- ── what a level holds, from its numbers alone ──
abbrev level_in : List ℕ → Level (List ℕ)
level_in l = record { label = get_or l label_place 0; stage = get_or l stage_place 0; held = take set_width l }

level_in_lem : (ws : List ℕ) (d : ℕ) → level_of ws d ≡ level_in (level_at ws d)
unfolding set_at part
level_in_lem ws d = rw (number_at label_place (omega arith), number_at stage_place (omega arith), take-take set_width level_width (drop (level_width * d) ws) (omega arith)) refl
  where
    number_at : (i : ℕ) → i < level_width → get_or (take level_width (drop (level_width * d) ws)) i 0 ≡ get_or ws (level_width * d + i) 0
    number_at i h = get_or-take level_width (drop (level_width * d) ws) i 0 h ∙ get_or-drop (level_width * d) ws i 0

opened_in : (x : ℕ) → level_in (opened x) ≡ record { label = x; stage = 0; held = no_states }
unfolding opened
opened_in x = refl

staged_in : (l : List ℕ) (t : ℕ) → length l ≡ level_width → level_in (staged l t) ≡ record { label = get_or l label_place 0; stage = t; held = take set_width l }
unfolding staged
staged_in l t h =
    let a : get_or (set l stage_place t) label_place 0 ≡ get_or l label_place 0 = get_or-set_other l stage_place label_place t 0 (λ e. omega arith) in
    let b : get_or (set l stage_place t) stage_place 0 ≡ t = get_or-set_same l stage_place t 0 (omega arith) in
    rw (a, b, take-set-le set_width l stage_place t (omega arith))

joined_in : (l a : List ℕ) → level_in (joined l a) ≡ record { label = get_or l label_place 0; stage = get_or l stage_place 0; held = either (take set_width l) a }
unfolding joined
joined_in l a = rw (behind 0, behind 1, take_at (either (take set_width l) a) (drop set_width l) set_width (either_long (take set_width l) a)) refl
  where
    -- the numbers behind the set stay
    behind : (i : ℕ) → get_or (either (take set_width l) a ++ drop set_width l) (set_width + i) 0 ≡ get_or l (set_width + i) 0
    behind i =
        let e : length (either (take set_width l) a) ≡ set_width = either_long (take set_width l) a in
        rw e at (get_or-append-add (either (take set_width l) a) (drop set_width l) i 0) ∙ get_or-drop set_width l i 0

pub set_long : (ws q : List ℕ) (d : ℕ) → q ≡ set_at ws d → HasLevel ws d → length q ≡ set_width
unfolding set_at
set_long ws q d e has = rw e (part_long ws (level_width * d) set_width (omega arith))

-- the numbers of what a level asks ask it
pub question_is : (ws : List ℕ) (d : ℕ) → HasLevel ws d → question_in (key_of (asks_at ws d)) ≡ asks_at ws d
question_is ws d has = key_asks (asks_at ws d) (set_long ws (set_at ws d) d refl has)

-- ── work on one level touches no other ──
module _ (ws : List ℕ) (d : ℕ) (has : HasLevel ws d) where
  module _ (l : List ℕ) (whole : length l ≡ level_width) where
    fits : level_width * d + length l ≤ length ws
    fits = rw whole (omega arith)

    there : level_of (with_level ws d l) d ≡ level_in l
    there = level_in_lem (with_level ws d l) d ∙ ap (λ n. level_in (part (with_level ws d l) (level_width * d) n)) (sym whole) ∙ ap level_in (patch_same ws (level_width * d) l fits)

    other : (e : ℕ) → (e ≡ d → ⊥) → level_at (with_level ws d l) e ≡ level_at ws e
    other e h = elim (dec_lt e d) [
      | yes k ↦ patch_below ws (level_width * d) l fits (level_width * e) level_width (omega arith)
      | no k ↦ patch_above ws (level_width * d) l fits (level_width * e) level_width (rw whole (omega arith))
    ]

    one : OneLevel ws (with_level ws d l) d
    one = record {
      long = patch_long ws (level_width * d) l fits;
      others = other;
      past = patch_past ws (level_width * d) l fits workspace_width (rw whole (omega arith));
    }

  -- what another level holds
  pub other_holds : (w : List ℕ) → OneLevel ws w d → (e : ℕ) → (e ≡ d → ⊥) → level_of w e ≡ level_of ws e
  other_holds w one e h = level_in_lem w e ∙ ap level_in (one.others e h) ∙ sym (level_in_lem ws e)

  pub opened_one : (x : ℕ) → OneLevel ws (opened_at ws d x) d
  unfolding opened_at
  opened_one x = one (opened x) (opened_long x)

  pub staged_one : (s : ℕ) → OneLevel ws (staged_at ws d s) d
  unfolding staged_at
  staged_one s = one (staged (level_at ws d) s) (staged_long (level_at ws d) s (level_long ws d has))

  pub joined_one : (a : List ℕ) → OneLevel ws (joined_at ws d a) d
  unfolding joined_at
  joined_one a = one (joined (level_at ws d) a) (joined_long (level_at ws d) a (level_long ws d has))

  -- what the level then holds
  pub opened_holds : (x : ℕ) → level_of (opened_at ws d x) d ≡ record { label = x; stage = 0; held = no_states }
  unfolding opened_at
  opened_holds x = there (opened x) (opened_long x) ∙ opened_in x

  pub staged_holds : (s : ℕ) → level_of (staged_at ws d s) d ≡ record { label = label_in ws d; stage = s; held = set_at ws d }
  unfolding staged_at
  staged_holds s =
      there (staged (level_at ws d) s) (staged_long (level_at ws d) s (level_long ws d has)) ∙ staged_in (level_at ws d) s (level_long ws d has)
      ∙ ap (λ (y : Level (List ℕ)). record { label = y.label; stage = s; held = y.held }) (sym (level_in_lem ws d))

  pub joined_holds : (a : List ℕ) → level_of (joined_at ws d a) d ≡ record { label = label_in ws d; stage = stage_in ws d; held = either (set_at ws d) a }
  unfolding joined_at
  joined_holds a =
      there (joined (level_at ws d) a) (joined_long (level_at ws d) a (level_long ws d has)) ∙ joined_in (level_at ws d) a
      ∙ ap (λ (y : Level (List ℕ)). record { label = y.label; stage = y.stage; held = either y.held a }) (sym (level_in_lem ws d))

  -- a workspace keeps its levels
  pub has_still : (w : List ℕ) (e : ℕ) → OneLevel ws w e → HasLevel w d
  has_still w e one = record { within = has.within; room = omega (arith, one.long, has.room) }
