-- That the run's promise does not allow what a wrong program gives, and the inner call and the pass not what one gives that works every
-- question out.
use Rattle.std.specs.Prelude.{◌≡◌, refl, ℕ, suc, get_or, replicate}
use Rattle.std.proofs.Common.{ap, arith}
use Rattle.rules.specs.Book.{states_of, meaning_of}
use Rattle.rules.specs.Message.{message}
use Rattle.rules.specs.Memory.{slot_width, ask}
use Rattle.rules.specs.Pass.{pass_message}
use Rattle.rules.specs.Promise.{RunPromise}
use Rattle.rules.proofs.ASmallDay.Examples.{run_shown, full}
use Rattle.rules.specs.ASmallDay as Small
use Rattle.wrong_programs.specs.Runs.{small, refusing, fixed_set, no_filter, writing_nothing, first_copied, every_anew, none_anew, working_out, wrong, empty_two, asking_worked_out, two_in_one, from_wrong}

pub refusing_shut : (e : ℕ) → RunPromise small (refusing e) → ⊥
unfolding run_shown
refusing_shut e p = let d : suc e ≡ 0 = ap (λ g. g.refusal) p in omega arith

pub fixed_shut : (f : ℕ) → RunPromise small (fixed_set f) → ⊥
unfolding run_shown
fixed_shut f p =
    let six : f ≡ 6 = ap (λ g. get_or g.answers 2 0) p in
    let two : f ≡ 2 = ap (λ g. get_or g.answers 5 0) p in
    omega arith

pub no_filter_shut : RunPromise small no_filter → ⊥
no_filter_shut = fixed_shut 0

pub nothing_shut : RunPromise small writing_nothing → ⊥
unfolding run_shown
nothing_shut p = let d : ◌≡◌ {A = ℕ} 9 0 = ap (λ g. get_or g.answers 0 0) p in omega arith

pub copied_shut : RunPromise small first_copied → ⊥
unfolding run_shown
copied_shut p = let d : ◌≡◌ {A = ℕ} 6 2 = ap (λ g. get_or g.answers 5 0) p in omega arith

pub every_shut : RunPromise small every_anew → ⊥
unfolding run_shown
every_shut p = let d : ◌≡◌ {A = ℕ} 5 4 = ap (λ g. g.anew) p in omega arith

pub none_anew_shut : RunPromise small none_anew → ⊥
unfolding run_shown
none_anew_shut p = let d : ◌≡◌ {A = ℕ} 0 4 = ap (λ g. g.anew) p in omega arith

-- the inner call gives that answer, memory and counts as they were; worked out it is state 13 alone, STEP 2 to a TRUE
pub wrong_comes_back : ask (states_of Small.book) empty_two wrong ≡ record { answer = replicate 8 full; kept = wrong }
unfolding run_shown
wrong_comes_back = refl

pub worked_shut : working_out (states_of Small.book) empty_two wrong ≡ ask (states_of Small.book) empty_two wrong → ⊥
unfolding run_shown
worked_shut p = let d : ◌≡◌ {A = ℕ} 8192 full = ap (λ r. get_or r.answer 0 0) p in omega arith

-- the next question, in slot 2, asks the set that the wrong answer made: the slot's first number tells the two apart
pub pass_worked_shut : message (asking_worked_out (meaning_of Small.book)) two_in_one from_wrong ≡ pass_message (meaning_of Small.book) two_in_one from_wrong → ⊥
unfolding run_shown
pass_worked_shut p = let d : ◌≡◌ {A = ℕ} 8192 full = ap (λ o. get_or o.state.kept.memory slot_width 0) p in omega arith
