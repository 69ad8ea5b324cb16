-- A line of the log, and the log of events one after the other. Assumes nothing.
use Rattle.octets.proofs.Kit.{ℕ, ◌+◌, ◌-◌, ◌≤◌, ◌<◌, ◌≡◌, sym, ◌∙◌, ap, ap₂, subst, List, [], ◌∷◌, ◌++◌, append-nil, length, take, drop, replicate}
use Rattle.octets.proofs.Kit.{length-append, length-replicate, replicate-append-replicate, length-take-le, take_all, drop_at, drop-length, drop-drop}
use Rattle.octets.proofs.Kit.{arith}
use Rattle.octets.{specs.Splice.splice, proofs.Splices.{splice_front}}
use Rattle.device.{specs.{Events.{Effect, State, request_of}, Sessions.session_for, declared.{Sessions.Sessions, Made.Made}}, proofs.promises.Demand1.at_most_16}
use Rattle.events.{specs.Events.{Event, connect, disconnect, button, request, restore, event_of, after}}
use Rattle.playback.specs.{Trace.{count, room, blank, event_in, event_at}, Rules.Playable, Walk.Shown, Playing.{at, line, line_of}, Event.{Happens, Readable, Logged}}
use Rattle.playback.proofs.Walking.{good_event}

-- an event of an accepted trace can be read
pub readable : (t e : List ℕ) (i : ℕ) → Playable t → i < count t → Shown t i e → Readable t e
readable t e i g b h =
    let m = good_event t g i b in
    subst (λ (x : List ℕ). Readable t x) (sym h.is)
    record { long = sym (ap length h.is) ∙ h.long; kind = m.0; within = omega (arith, m.1.1.1.0, m.1.1.1.1.0) }

-- no answer is longer than the buffer
pub short : (x : State) (e : Event) → length (event_of x e).answer ≤ room
unfolding event_of request_of
short x (connect c) = omega arith
short x (disconnect c) = omega arith
short x (button on) = omega arith
short x (request mode c group a out) = at_most_16 (length out) x.sheet (session_for x.sessions mode c) mode group a
short x (restore c n st) = omega arith

abbrev zeros : ℕ → List ℕ
zeros n = replicate n 0

length_zeros : (n : ℕ) → length (zeros n) ≡ n
length_zeros n = length-replicate {A = ℕ} n 0

pub length_line : (x : State) (e : Event) → length (line_of (event_of x e)) ≡ line
unfolding line_of
length_line x e =
    let r : Effect = event_of x e in
    omega (arith, length-append r.answer (zeros (room - length r.answer)), length_zeros (room - length r.answer), short x e)

drop_zeros : (n m : ℕ) → drop n (zeros (n + m)) ≡ zeros m
drop_zeros n m =
    ap (drop {A = ℕ} n) (sym (replicate-append-replicate {A = ℕ} n m 0)) ∙ drop_at (zeros n) (zeros m) n (length_zeros n)

-- the answer in front of a buffer of zeros
answered : (a : List ℕ) → length a ≤ room → splice blank 0 a ≡ a ++ zeros (room - length a)
answered a h =
    let n : room ≡ length a + (room - length a) = omega arith in
    splice_front blank a
    ∙ ap (λ (x : List ℕ). a ++ x) (ap (λ (n : ℕ). drop (length a) (zeros n)) n ∙ drop_zeros (length a) (room - length a))

module _ (l l₁ : List ℕ) (h : length l ≡ line) (e₁ : l₁ ≡ splice l 2 (replicate 16 0)) where
  cleared : l₁ ≡ take 2 l ++ blank
  unfolding splice
  cleared =
      let n : 2 + length (zeros 16) ≡ length l = omega (arith, h, length_zeros 16) in
      let z : drop (2 + length (zeros 16)) l ≡ [] = ap (λ (n : ℕ). drop n l) n ∙ drop-length l in
      e₁ ∙ ap (λ (x : List ℕ). take 2 l ++ blank ++ x) z ∙ append-nil (take 2 l ++ blank)

  two : length (take 2 l) ≡ 2
  two = length-take-le 2 l (omega arith)

  long₁ : length l₁ ≡ line
  long₁ = ap length cleared ∙ length-append (take 2 l) blank ∙ omega (arith, two, length_zeros 16)

  -- outcome and count have their place in front, whatever stands behind
  pub front_fits : (o : List ℕ) → 2 ≤ length (take 2 l₁ ++ o)
  front_fits o = omega (arith, length-append (take 2 l₁) o, length-take-le 2 l₁ (omega (arith, long₁)))

  -- the answer buffer is all zeros
  buffer : take (length l₁ - 2) (drop 2 l₁) ≡ blank
  buffer =
      ap (λ (x : List ℕ). take (length l₁ - 2) x) (ap (λ (x : List ℕ). drop 2 x) cleared ∙ drop_at (take 2 l) blank 2 two)
      ∙ take_all (length l₁ - 2) blank (omega (arith, long₁, length_zeros 16))

  pub buffer_long : length (take (length l₁ - 2) (drop 2 l₁)) ≡ room
  buffer_long = ap length buffer ∙ length_zeros 16

  -- THE LINE of an event
  module _ (q : Sessions) (s t e : List ℕ) (i : ℕ) (r : Made) (s' o' : List ℕ) (is : Shown t i e) (did : Happens q s (event_in t e) r (take (length l₁ - 2) (drop 2 l₁)) s' o') where
    x : Effect
    x = event_of (at q s) (event_at t i)

    same : event_of (at q s) (event_in t e) ≡ x
    unfolding x
    same = ap (λ (y : List ℕ). event_of (at q s) (event_in t y)) is.is

    tail : o' ≡ x.answer ++ zeros (room - length x.answer)
    unfolding x
    tail =
        did.did.answer
        ∙ ap₂ (λ (b : List ℕ) (y : Effect). splice b 0 y.answer) buffer same
        ∙ answered x.answer (short (at q s) (event_at t i))

    front : (b : List ℕ) → length b ≡ 2 → drop 2 (b ++ (o' ++ drop (length l₁ - 2) (drop 2 l₁))) ≡ o'
    front b m =
        let n : 2 + (length l₁ - 2) ≡ length l₁ = omega (arith, long₁) in
        drop_at b (o' ++ drop (length l₁ - 2) (drop 2 l₁)) 2 m
        ∙ ap (λ (y : List ℕ). o' ++ y) (drop-drop (length l₁ - 2) 2 l₁ ∙ ap (λ (j : ℕ). drop j l₁) n ∙ drop-length l₁)
        ∙ append-nil o'

    pub logged : (l₃ : List ℕ) → l₃ ≡ splice (take 2 l₁ ++ (o' ++ drop (length l₁ - 2) (drop 2 l₁))) 0 (r.done.outcome ∷ r.done.count ∷ [])
        → Logged q s t i r s' l₃
    unfolding x after line_of
    logged l₃ k =
        record {
          state = ap₂ (λ (a : Sessions) (b : List ℕ). at a b) (did.did.sessions ∙ ap (λ (y : Effect). y.sessions) same) (did.did.sheet ∙ ap (λ (y : Effect). y.sheet) same);
          named = did.named;
          line =
              k
              ∙ splice_front _ (r.done.outcome ∷ r.done.count ∷ [])
              ∙ ap (λ (y : List ℕ). r.done.outcome ∷ r.done.count ∷ y) (front (take 2 l₁) (length-take-le 2 l₁ (omega (arith, long₁))) ∙ tail)
              ∙ ap₂ (λ (a b : ℕ). a ∷ b ∷ (x.answer ++ zeros (room - length x.answer))) (did.did.outcome ∙ ap (λ (y : Effect). y.outcome) same)
              (did.did.count ∙ ap (λ (y : Effect). length y.answer) same);
        }
