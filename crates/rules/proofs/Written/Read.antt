-- A body is read to a tree exactly where it is that tree written out and the tree has the shape of a message.
use Rattle.std.specs.Prelude.{◌≡◌, refl, Bool, true, false, ◌↔◌, length, get_or}
use Rattle.std.proofs.Math.Path.{sym, ap}
use Rattle.std.proofs.Common.{◌∙◌, arith}
use Rattle.std.proofs.lemmas.Bool.{false≢true}
use mathlib.Core.List.{List, [], ◌∷◌, ◌++◌, append-nil}
use Rattle.std.proofs.Math.Option.{Option}
use Prim.Native.Nat.{ℕ, suc, ◌<◌}
use Rattle.lists.specs.Below.{bit}
use Rattle.rules.specs.Book.{Meaning}
use Rattle.rules.specs.Tree.{Forest, childless, tree, Content}
use Rattle.rules.specs.Message.{Level, begin, outcome, events, message, last_refusal}
use Rattle.rules.specs.Asked.{growing, read_tree}
use Rattle.rules.specs.Written.{written_text, written, has_element, one_element, message_shaped, written_events, AreBytes}
use Rattle.rules.proofs.Message.Events.{Course, course, halts, events_follow}
use Rattle.rules.proofs.Written.Shape.{Whole, whole_fits}
use Rattle.rules.proofs.Message.Refusals.{stage_of, root_fits, last_known}
use Rattle.rules.proofs.Written.Laws.{Standing, closed_nodes, read_tree_lem}
use Rattle.rules.proofs.Message.Open.{Open, opened, Sound, follow_keeps, begin_sound}

-- ── the end of the body ──
one_known : (f : Forest) → root_fits 0 f ≡ true → has_element f ≡ true → one_element f ≡ true
unfolding has_element
one_known childless r h = absurd (false≢true h)
one_known (tree f x t kids) r h = r

digit_one : (h : Bool) → bit h ≡ 1 → h ≡ true
digit_one true e = refl
digit_one false e = absurd (omega arith)

-- B: what the book means to the message
module _ (B : Meaning) where
  -- where nothing is open and the top element came, the tree has its shape, and the bytes are the tree written out
  body_known : (l s : ℕ) (t : Option (List ℕ)) (f : Forest) (us : List (Level Content)) (bytes : List ℕ) → s ≡ stage_of t f → Open B l t f us → opened l us ++ (written f ++ written_text t) ≡ bytes →
      last_refusal (length us) s ≡ 0 → (bytes ≡ written f) × Whole B (record { text = t; children = f })
  unfolding Open opened
  body_known l s t f (u ∷ us) bytes q o b e = absurd (let n : suc (length us) ≡ 0 = (last_known (length (u ∷ us)) s e).0 in omega arith)
  body_known l s t f [] bytes q o b e =
      let h : bit (has_element f) ≡ 1 = ap (λ u. stage_of u f) (sym o.textless) ∙ sym q ∙ (last_known 0 s e).1 in (
        sym b ∙ rw o.textless (append-nil (written f)),
        record { textless = o.textless; one = one_known f o.fits (digit_one (has_element f) h); inside = o.inside },
      )

  pub sound_whole : (r : Standing) (bytes : List ℕ) → Sound B r bytes → last_refusal (length r.under) r.top.stage ≡ 0 →
      (bytes ≡ written r.top.held.children) × Whole B r.top.held
  sound_whole r bytes k e = body_known r.top.label r.top.stage r.top.held.text r.top.held.children r.under bytes k.stage k.levels k.bytes_are e

  -- where reading on from r leads: refused by that number, or the body is read
  pub record Run (z : List ℕ) (r : Standing) (bytes : List ℕ) : Type 0 where
    pub way : Course (growing B) z r
    pub number : ℕ
    pub outcome_is : events (growing B) z 0 r ≡ outcome way.last number
    pub done : number ≡ 0 → (way.rest ≡ []) × (last_refusal (length way.last.under) way.last.top.stage ≡ 0)
    pub sound : Sound B way.last (bytes ++ written_events way.passed)

  pub run : (z : List ℕ) (r : Standing) (bytes : List ℕ) → Sound B r bytes → AreBytes z → Run z r bytes
  run z r bytes k h =
      let c : Course (growing B) z r = course (growing B) z 0 r h in
      let a = halts (growing B) c.last c.rest c.halt in
      record {
        way = c;
        number = a.0;
        outcome_is = ap (λ b. events (growing B) b 0 r) c.whole ∙ events_follow (growing B) c.passed c.rest r c.last c.follows ∙ a.1;
        done = a.2;
        sound = follow_keeps B c.passed r c.last bytes k c.follows;
      }

  -- a body that is read is its tree written out, and the tree has the shape of a message
  read_known : (body : List ℕ) → AreBytes body → (read_tree B body).refusal ≡ 0 → (body ≡ written (read_tree B body).root.children) × (message_shaped B (read_tree B body).root ≡ true)
  unfolding read_tree message
  read_known body h e =
      let c : Run body (begin (growing B) []) [] = run body (begin (growing B) []) [] (begin_sound B) h in
      let z = c.done (sym (ap (λ o. o.refusal) c.outcome_is) ∙ e) in
      let k = sound_whole c.way.last (written_events c.way.passed) c.sound z.1 in
      rw c.outcome_is
      (c.way.whole ∙ ap (λ b. written_events c.way.passed ++ b) z.0 ∙ append-nil (written_events c.way.passed) ∙ k.0, whole_fits B c.way.last.top.held k.1)

  -- a body is read to a tree exactly where it is that tree written out and the tree has the shape of a message
  pub read_exactly : (body : List ℕ) → ((i : ℕ) → get_or body i 0 < 256) → (root : Content) →
      (((read_tree B body).refusal ≡ 0) × ((read_tree B body).root ≡ root)) ↔ ((body ≡ written root.children) × (message_shaped B root ≡ true))
  read_exactly body h root = (there, back)
    where
      there : ((read_tree B body).refusal ≡ 0) × ((read_tree B body).root ≡ root) → (body ≡ written root.children) × (message_shaped B root ≡ true)
      there p = rw p.1 at (read_known body h p.0)

      back : (body ≡ written root.children) × (message_shaped B root ≡ true) → ((read_tree B body).refusal ≡ 0) × ((read_tree B body).root ≡ root)
      back p = rw (p.0, read_tree_lem B root p.1) (refl, refl)

  -- two bodies that are read to one tree are one
  pub read_once : (one other : List ℕ) → AreBytes one → AreBytes other → (read_tree B one).refusal ≡ 0 → (read_tree B other).refusal ≡ 0 → (read_tree B one).root ≡ (read_tree B other).root → one ≡ other
  read_once one other g h p q e = (read_known one g p).0 ∙ ap (λ c. written c.children) e ∙ sym (read_known other h q).0

  -- the nodes that closed are the tree's
  pub read_nodes : (body : List ℕ) → AreBytes body → (read_tree B body).refusal ≡ 0 → (read_tree B body).state ≡ closed_nodes (read_tree B body).root.children
  read_nodes body h e = let k = read_known body h e in ap (λ o. o.state) (ap (read_tree B) k.0 ∙ read_tree_lem B (read_tree B body).root k.1)
