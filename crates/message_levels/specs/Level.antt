-- A level of the workspace: numbers that stand together. Section "Questions and the memory": "work on one level touches no other".
-- Where a level stands and what stands where in it is said here and nowhere else: all other crates use these names.
use Rattle.std.specs.Prelude.{ℕ, ◌+◌, ◌*◌, ◌≤◌, ◌<◌, ◌≡◌, List, ◌++◌, length, get_or, take, drop, set, replicate}
use Rattle.lists.specs.Parts.{part, patch}
use Rattle.rules.specs.Message.{Level}
use Rattle.rules.specs.Sets.{set_width, Question, either}
use Rattle.rules.specs.Run.{level_width, levels, workspace_width}

-- the numbers of a set, then the label, then the stage
abbrev pub label_place : ℕ
label_place = set_width

abbrev pub stage_place : ℕ
stage_place = set_width + 1

abbrev pub level_at : List ℕ → ℕ → List ℕ
level_at ws d = part ws (level_width * d) level_width

abbrev pub with_level : List ℕ → ℕ → List ℕ → List ℕ
with_level ws d l = patch ws (level_width * d) l

-- the workspace has room for the levels, and d is one of them
pub record HasLevel (ws : List ℕ) (d : ℕ) : Type 0 where
  pub within : d < levels
  pub room : workspace_width ≤ length ws

-- ── what a level holds ──
abbrev pub label_in : List ℕ → ℕ → ℕ
label_in ws d = get_or ws (level_width * d + label_place) 0

abbrev pub stage_in : List ℕ → ℕ → ℕ
stage_in ws d = get_or ws (level_width * d + stage_place) 0

unfoldable pub set_at : List ℕ → ℕ → List ℕ
set_at ws d = part ws (level_width * d) set_width

-- what it asks: its set and its label
abbrev pub asks_at : List ℕ → ℕ → Question
asks_at ws d = record { states = set_at ws d; label = label_in ws d }

-- the level as the rules have it
abbrev pub level_of : List ℕ → ℕ → Level (List ℕ)
level_of ws d = record { label = label_in ws d; stage = stage_in ws d; held = set_at ws d }

-- ── work on a level ──
-- opened: its label, and nothing else
unfoldable pub opened : ℕ → List ℕ
opened x = set (replicate level_width 0) label_place x

unfoldable pub staged : List ℕ → ℕ → List ℕ
staged l s = set l stage_place s

unfoldable pub joined : List ℕ → List ℕ → List ℕ
joined l a = either (take set_width l) a ++ drop set_width l

unfoldable pub opened_at : List ℕ → ℕ → ℕ → List ℕ
opened_at ws d x = with_level ws d (opened x)

unfoldable pub staged_at : List ℕ → ℕ → ℕ → List ℕ
staged_at ws d s = with_level ws d (staged (level_at ws d) s)

unfoldable pub joined_at : List ℕ → ℕ → List ℕ → List ℕ
joined_at ws d a = with_level ws d (joined (level_at ws d) a)

-- w is ws but for level d: "work on one level touches no other", nor what is lent past the levels
pub record OneLevel (ws w : List ℕ) (d : ℕ) : Type 0 where
  pub long : length w ≡ length ws
  pub others : (e : ℕ) → (e ≡ d → ⊥) → level_at w e ≡ level_at ws e
  pub past : drop workspace_width w ≡ drop workspace_width ws
