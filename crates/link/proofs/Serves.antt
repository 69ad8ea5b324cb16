-- Laws behind serving. Assumes nothing.
use Rattle.octets.proofs.Kit.{ℕ, ◌+◌, ◌≤◌, ◌<◌, ◌≡◌, refl, sym, ap, ap₂, subst, ◌∙◌, List, [], length, take, replicate, length-take-le, lt-ltb, le-ltb, arith}
use Rattle.octets.{specs.Octets.ReadFrom, proofs.Splices.{splice_none, splice_read}}
use Rattle.cemi.{specs.{Read.{fields_in, frame_in, read_frame}, Parts.tpdu_of, Answering.answering, declared.{Fields.Fields, Frame.Frame, ReadRefusal.ReadRefusal}}, proofs.promises.Standards.reads_standard}
use Rattle.cemi.specs.Refusal.{read_number}
use Rattle.std.specs.Prelude.{Result, Ok, Err}
use Rattle.device.specs.{Events.{Effect, request_of}, Changed.{Requested, changed_of}, declared.{Done.Done, Made.Made}}
use Rattle.device.proofs.promises.Called.{call_leaves}
use Rattle.link.specs.{Partners.nobody, Hearing.{own_of, judged, heard_got, heard_of}}
use Rattle.link.specs.{Serving.{most, longest, apdu_of, with_sessions, leaving, deed_of, serve_of, result_of, DidServe, Sent}, declared.{Link.Link}}
use Rattle.link.specs.declared.Served.{Served}
use Rattle.link.specs.declared.Arrived.TheVariants as arrived

pub counted : (n : ℕ) (m : List ℕ) → n ≤ length m → n ≡ length (take n m)
counted n m h = sym (length-take-le n m h)

module _ (k : Link) (f : Fields) (sequence mode c group : ℕ) (a s o : List ℕ) (made : Made) (s' m : List ℕ)
    (asked : Requested k.sessions mode c group a s (replicate 16 0) made s' m) where
  abbrev d : Done
  d = made.done

  pub few : d.count ≤ 16
  few = (call_leaves k.sessions mode c group a s (replicate 16 0) d s' m asked.call).most

  pub enough : d.count ≤ length m
  enough = omega (arith, few, (call_leaves k.sessions mode c group a s (replicate 16 0) d s' m asked.call).long)

  pub few_taken : length (take d.count m) ≤ most
  few_taken = omega (arith, few, length-take-le d.count m enough)

  abbrev x : Effect
  x = request_of most s k.sessions mode c group a

  taken : take d.count m ≡ x.answer
  taken =
      let fits : 0 + length x.answer ≤ length (replicate {A = ℕ} 16 0) = omega (arith, few, asked.call.did.count) in
      ap₂ (λ (n : ℕ) (b : List ℕ). take n b) asked.call.did.count asked.call.did.answer ∙ splice_read (replicate 16 0) 0 x.answer fits

  pub was_requested :
      (own count : ℕ) (o' : List ℕ) → own ≡ own_of s → Sent (answering f own mode sequence) (take d.count m) o count o' →
      DidServe (deed_of k f sequence a s (arrived.Request mode c group))
      (record { number = 0; outcome = d.outcome; connection = c; count = count; changed = made.changed; link = with_sessions k d.sessions }) o s' o'
  unfolding deed_of
  was_requested own count o' w h =
      let sent : Sent (answering f (own_of s) mode sequence) x.answer o count o' =
      subst (λ (n : ℕ). Sent (answering f n mode sequence) x.answer o count o') w
      (subst (λ (b : List ℕ). Sent (answering f own mode sequence) b o count o') taken h) in
      let e₁ : d.outcome ≡ x.outcome = asked.call.did.outcome in
      let e₂ : d.sessions ≡ x.sessions = asked.call.did.sessions in
      let e₃ : made.changed ≡ changed_of most s k.sessions mode c group a = asked.changed in
      record { result = rw (e₁, e₂, e₃, sent.count); sheet = asked.call.did.sheet; buffer = sent.buffer }

module _ (k : Link) (sequence : ℕ) (b s o : List ℕ) (r : Served) where
  abbrev Did : List ℕ → List ℕ → Type 0
  Did s' o' = DidServe (serve_of k sequence b s (length o)) r o s' o'

  pub no_room_lem : length o < 25 → r ≡ result_of (leaving k [] 64 nobody) → Did s o
  unfolding serve_of
  no_room_lem l h = let t = lt-ltb (length o) longest l in rw t record { result = h; sheet = refl; buffer = sym (splice_none o 0) }

  module _ (l : 25 ≤ length o) (g : Result Frame ReadRefusal) (e : ReadFrom b g (read_frame b)) where
    pub was_read :
        (f : Frame) (a s' o' : List ℕ) → g ≡ Ok f → a ≡ tpdu_of f b →
        DidServe (deed_of k f.fields sequence a s (judged k (own_of s) f)) r o s' o' → Did s' o'
    unfolding serve_of heard_of heard_got
    was_read f a s' o' z u h =
        let q : read_frame b ≡ Ok f = sym e.is ∙ z in
        let i : frame_in b ≡ f = (reads_standard b f q).1 in
        let t = le-ltb (length o) longest l in
        rw t
        (subst (λ (y : Result Frame ReadRefusal). DidServe (deed_of k (fields_in b) sequence (apdu_of b) s (heard_got k (own_of s) y)) r o s' o') (sym (q ∙ ap Ok (sym i)))
        (subst (λ (f : Frame). DidServe (deed_of k f.fields sequence (tpdu_of f b) s (judged k (own_of s) f)) r o s' o') (sym i)
        (subst (λ (a : List ℕ). DidServe (deed_of k f.fields sequence a s (judged k (own_of s) f)) r o s' o') u h)))

    pub not_read : (y : ReadRefusal) (n : ℕ) → g ≡ Err y → n ≡ read_number y → r ≡ result_of (leaving k [] n nobody) → Did s o
    unfolding serve_of heard_of heard_got deed_of
    not_read y n z i h =
        let q : read_frame b ≡ Err y = sym e.is ∙ z in
        let t = le-ltb (length o) longest l in
        rw (t, q, sym i) record { result = h; sheet = refl; buffer = sym (splice_none o 0) }
