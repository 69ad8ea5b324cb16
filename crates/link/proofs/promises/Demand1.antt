-- DEMAND 1 OF A FRAME: a number of the list, and what each leaves as found. Assumes nothing.
use Rattle.octets.proofs.Kit.{ℕ, ◌+◌, ◌≤◌, ◌≡◌, refl, sym, ap, subst, ◌∙◌, ◌⊎◌, inl, inr, true, List, [], ◌∷◌, length, get_or, replicate, ltb, eqb, arith, ltb-false}
use Rattle.octets.{specs.{Octets.Octets, Splice.splice}, proofs.{Splices.{splice_none, splice_above, length_splice}, Walks.by_test}}
use Rattle.cemi.specs.{Meaning.{meaning_of}, Read.{fields_in, frame_in}, Answering.answering}
use Rattle.cemi.specs.declared.{Fields.Fields, Meaning.Meaning, ReadRefusal.{ReadRefusal, TheVariants.{Short, Code, Extended, Length}}, NoMeaning.{NoMeaning, TheVariants.{Transport, Acknowledgement}}}
use Rattle.cemi.specs.Refusal.{read_number, none_number}
use Rattle.std.specs.Prelude.{Result, Ok, Err}
use Rattle.cemi.specs.declared.Meaning.TheVariants as meaning
use Rattle.device.{specs.{Sessions.known, Events.{Effect, named_outcome, request_of, Called}, Demand1.{OneOf, Leaves}, declared.Done.Done}, proofs.promises.Called.call_leaves}
use Rattle.link.specs.{Partners.{place_of, place_for}, Hearing.{own_of, on_place, connects, disconnects, meant, heard_of}}
use Rattle.link.specs.{Serving.{most, longest, apdu_of, answer_frame, with_sessions, Deed, deed_of, serve_of, ServedFrame}, Net.source_of, Demand1.{Why, ServeLeaves}, declared.Link.Link}
use Rattle.link.specs.declared.{Served.Served, Arrived.{Arrived, TheVariants.{Request, Connect, Disconnect, Nothing}}}
use Rattle.link.proofs.{promises.Kept.octets_apdu, Answered.frame_few, promises.Whose.{heard_by}}

-- the numbers of frames
abbrev pub Framed : ℕ → Type 0
Framed n = (40 ≤ n) × (n ≤ 45)

pub unread_framed : (e : ReadRefusal) → Framed (read_number e)
unread_framed Short = (omega arith, omega arith)
unread_framed Code = (omega arith, omega arith)
unread_framed Extended = (omega arith, omega arith)
unread_framed Length = (omega arith, omega arith)

pub unmeant_framed : (e : NoMeaning) → Framed (none_number e)
unmeant_framed Transport = (omega arith, omega arith)
unmeant_framed Acknowledgement = (omega arith, omega arith)

-- of what arrived: connections that there are, and the numbers of the list
abbrev Told : Arrived → Type 0
Told (Request mode c group) = Unit {0}
Told (Connect c) = known c ≡ true
Told (Disconnect c) = known c ≡ true
Told (Nothing n c) = Why n

module _ (k : Link) (own : ℕ) (b : List ℕ) where
  meant_told : (a group : ℕ) (m : Result Meaning NoMeaning) → Told (meant k a group m)
  unfolding meant on_place connects disconnects
  meant_told a group (Ok (meaning.Data mode)) =
      by_test Told (eqb mode 3) _ _ (λ t. by_test Told (known (place_of k a)) _ _ (λ u. tt) (λ u. inr (omega arith, omega arith))) (λ t. tt)
  meant_told a group (Ok meaning.Connect) = by_test Told (known (place_for k a)) _ _ (λ u. u) (λ u. inr (omega arith, omega arith))
  meant_told a group (Ok meaning.Disconnect) = by_test Told (known (place_of k a)) _ _ (λ u. u) (λ u. inr (omega arith, omega arith))
  meant_told a group (Err e) = inl (unmeant_framed e)

  told : Told (heard_of k own b)
  told =
      heard_by k own b Told (λ e. inl (unread_framed e)) (inr (omega arith, omega arith)) (inr (omega arith, omega arith))
      (λ group. meant_told (source_of b) group (meaning_of (frame_in b)))

-- what a deed leaves
record Sound (k : Link) (s : List ℕ) (room : ℕ) (x : Deed) : Type 0 where
  number : (x.number ≡ 0) ⊎ Why x.number
  none : (x.number ≡ 0 → ⊥) → (x.outcome ≡ 0) × (x.answer ≡ []) × (x.link ≡ k) × (x.sheet ≡ s)
  outcome : OneOf x.outcome
  kept : 2 ≤ x.outcome → (x.sheet ≡ s) × (x.link ≡ k)
  silent : 1 ≤ x.outcome → (x.outcome ≡ 11 → ⊥) → x.answer ≡ []
  most : length x.answer ≤ longest
  fits : 0 + length x.answer ≤ room

-- that of a deed with outcome 0 or 1 and no answer
mute : (k : Link) (s : List ℕ) (room : ℕ) (x : Deed) → (x.number ≡ 0) ⊎ Why x.number → ((x.number ≡ 0 → ⊥) → (x.outcome ≡ 0) × (x.answer ≡ []) × (x.link ≡ k) × (x.sheet ≡ s)) →
    x.outcome ≤ 1 → x.answer ≡ [] → Sound k s room x
mute k s room x n e few a =
    let l : length x.answer ≡ 0 = ap length a in
    record { number = n; none = e; outcome = inl (omega arith); kept = λ h. absurd (omega arith); silent = λ h m. a; most = omega arith; fits = omega arith }

-- the request's own, by demand 1 of a request
module _ (k : Link) (s a : List ℕ) (mode c group : ℕ) (small : Octets s) (bytes : Octets a) where
  abbrev pub effect : Effect
  effect = request_of most s k.sessions mode c group a

  abbrev pub done : Done
  done = record { outcome = effect.outcome; count = length effect.answer; sessions = effect.sessions }

  pub called : Called k.sessions mode c group a s (replicate most 0) done effect.sheet (splice (replicate most 0) 0 effect.answer)
  called =
      record {
        did = record { outcome = refl; count = refl; sessions = refl; sheet = refl; answer = refl };
        sheet_bytes = small;
        apdu_bytes = bytes;
      }

  left : Leaves k.sessions a s (replicate most 0) done effect.sheet (splice (replicate most 0) 0 effect.answer)
  left = call_leaves k.sessions mode c group a s (replicate most 0) done effect.sheet (splice (replicate most 0) 0 effect.answer) called

empty : (l : List ℕ) → length l ≡ 0 → l ≡ []
empty [] e = refl
empty (x ∷ l) e = absurd (omega arith)

-- a connection that there is gets 1
named_one : (c : ℕ) → known c ≡ true → named_outcome c ≡ 1
named_one c e = simp e

module _ (k : Link) (f : Fields) (sequence : ℕ) (a s : List ℕ) (small : Octets s) (bytes : Octets a) (room : ℕ) (wide : longest ≤ room) where
  sound : (r : Arrived) → Told r → Sound k s room (deed_of k f sequence a s r)
  unfolding deed_of
  sound (Request mode c group) t =
      let x : Leaves k.sessions a s (replicate most 0) (done k s a mode c group small bytes) _ _ = left k s a mode c group small bytes in
      let few = frame_few f (own_of s) mode sequence (effect k s a mode c group small bytes).answer x.most in
      record {
        number = inl refl;
        none = λ n. absurd (n refl);
        outcome = x.outcome;
        kept = λ h. ((x.kept h).0, ap (with_sessions k) (x.kept h).1);
        silent = λ h n. ap (answer_frame (answering f (own_of s) mode sequence)) (empty (effect k s a mode c group small bytes).answer (x.silent h n).0);
        most = few;
        fits = omega (arith, few, wide);
      }
  sound (Connect c) t = mute k s room _ (inl refl) (λ n. absurd (n refl)) (omega (arith, named_one c t)) refl
  sound (Disconnect c) t = mute k s room _ (inl refl) (λ n. absurd (n refl)) (omega (arith, named_one c t)) refl
  sound (Nothing n c) t = mute k s room _ (inr t) (λ h. (refl, refl, refl, refl)) (omega arith) refl

module _ (k : Link) (sequence : ℕ) (b s o : List ℕ) (r : Served) (s' o' : List ℕ) (call : ServedFrame k sequence b s o r s' o') where
  abbrev d : Deed
  d = serve_of k sequence b s (length o)

  is_sound : Sound k s (length o) d
  unfolding serve_of
  is_sound =
      by_test (Sound k s (length o)) (ltb (length o) longest) _ _
      (λ t. mute k s (length o) _ (inr (inr (omega arith, omega arith))) (λ h. (refl, refl, refl, refl)) (omega arith) refl)
      (λ t.
      sound k (fields_in b) sequence (apdu_of b) s call.sheet_bytes (octets_apdu b call.frame_bytes) (length o) (ltb-false (length o) longest t)
      (heard_of k (own_of s) b) (told k (own_of s) b))

  -- DEMAND 1
  pub serve_leaves : ServeLeaves k s o r s' o'
  serve_leaves =
      let x = is_sound in
      let e = call.did.result in
      let n : r.number ≡ d.number = ap (λ (q : Served). q.number) e in
      let u : r.outcome ≡ d.outcome = ap (λ (q : Served). q.outcome) e in
      let c : r.count ≡ length d.answer = ap (λ (q : Served). q.count) e in
      let l : r.link ≡ d.link = ap (λ (q : Served). q.link) e in
      let z : s' ≡ d.sheet = call.did.sheet in
      let p : o' ≡ splice o 0 d.answer = call.did.buffer in
      let still : d.answer ≡ [] → (r.count ≡ 0) × (o' ≡ o) =
      λ h. (c ∙ ap length h, p ∙ ap (splice o 0) h ∙ splice_none o 0) in
      record {
        number = subst (λ (m : ℕ). (m ≡ 0) ⊎ Why m) (sym n) x.number;
        none = λ h.
            let w = x.none (λ i. h (n ∙ i)) in
            let t = still w.1 in
            (u ∙ w.0, t.0, l ∙ w.2, z ∙ w.3, t.1);
        outcome = subst OneOf (sym u) x.outcome;
        kept = λ h. let w = x.kept (omega (arith, u)) in (z ∙ w.0, l ∙ w.1);
        silent = λ h m. still (x.silent (omega (arith, u)) (λ i. m (u ∙ i)));
        most = omega (arith, c, x.most);
        rest = λ i h. ap (λ (w : List ℕ). get_or w i 0) p ∙ splice_above o 0 d.answer x.fits i (omega (arith, c));
        long = ap length p ∙ length_splice o 0 d.answer x.fits;
      }
