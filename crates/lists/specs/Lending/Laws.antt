-- `was` and `held` look at the moment when the call began, `left` and `stays` at the moment when it ended.
use Rattle.std.specs.Prelude.{◌≡◌, refl}
use Rattle.std.specs.Borrow.{Bor, MutBor}
use Rattle.lists.specs.Lending.{was, left, held, stays}

pub was_entry : {X : Type 0} (e x : MutBor X) → was (record { entry = e; exit = x }) ≡ e.now
was_entry e x = refl

pub left_exit : {X : Type 0} (e x : MutBor X) → left (record { entry = e; exit = x }) ≡ x.now
left_exit e x = refl

pub held_entry : {X : Type 0} (e x : Bor X) → held (record { entry = e; exit = x }) ≡ e.now
held_entry e x = refl

pub stays_exit : {X : Type 0} (e x : Bor X) → stays (record { entry = e; exit = x }) ≡ x.now
stays_exit e x = refl
