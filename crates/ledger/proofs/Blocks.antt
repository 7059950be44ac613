-- Blocks in demand 3's list: a block is the byte calls of the bytes that it used. Assumes nothing.
use Prim.Native.Nat.{ℕ, suc, ◌-◌}
use mathlib.Core.Path.{◌≡◌, refl, sym, ap, ◌∙◌, subst}
use mathlib.Core.Bool.{Bool, true, false, cond}
use mathlib.Core.List.{List, [], ◌∷◌, ◌++◌, map}
use lib.Dec.{ltb, eqb}
use lib.ListN.{length, take, drop, length-drop}
use borrow.Author.Tests.{ltb-true}
use Rattle.lists.specs.Filter.{filter}
use Rattle.lists.specs.Overlay.{overlay}
use Rattle.lists.proofs.Overlays.{overlay_take}
use Rattle.tpck.specs.declared.event.Drop.{Drop}
use Rattle.tpck.specs.declared.event.Drop.TheVariants.{Restarted, Early, TooLong, Checksum}
use Rattle.tpck.specs.Event.{drop_number, is_drop}
use Rattle.tpck.specs.Frame.{sum}
use Rattle.updates.specs.declared.line.Line.{Line}
use Rattle.trpc.specs.declared.judging.FrameError.{FrameError}
use Rattle.trpc.specs.declared.judging.FrameError.TheVariants.{WrongType, TooShort, WrongService, UnknownMethod, ServiceNotUsed, WrongWidth, UnknownAddress, StateTooHigh}
use Rattle.trpc.specs.Judging.{number_of}
use Rattle.gateway.specs.declared.gateway.Gateway.{Gateway}
use Rattle.gateway.specs.declared.answers.ByteRefusal.{ByteRefusal}
use Rattle.gateway.specs.declared.answers.ByteRefusal.TheVariants as refusal
use Rattle.gateway.specs.declared.answers.ByteAnswer.{ByteAnswer}
use Rattle.gateway.specs.declared.answers.ByteAnswer.TheVariants as bytes
use Rattle.gateway.specs.Answers.{byte_number, body_taken}
use Rattle.gateway.specs.Reply.{room, on_line}
use Rattle.gateway.specs.Writes.{ByteWrites}
use Rattle.gateway.specs.Writes.ByteWrites.{nothing, refused, queued, replied}
use Rattle.gateway.specs.Byte.{byte}
use Rattle.gateway.specs.View.{view}
use Rattle.gateway.specs.Results.{fed}
use Rattle.gateway.proofs.Theorems.{byte_writes}
use Rattle.blocks.specs.Counts.{number_in, taken_in, times, times_queued, total_taken, counted_numbers, counted}
use Rattle.blocks.specs.Counts as counts
use Rattle.blocks.specs.Feed.{Feed, unused, unless_full, feed}
use Rattle.std.specs.Prelude.{Err}
use Rattle.blocks.specs.declared.answers.BlockRefusal.TheVariants.{Short}
use Rattle.blocks.specs.declared.answers.Blocked.{Blocked}
use Rattle.blocks.specs.Block.{BlockAnswer, used as used_by, most_used, block_number, used_in, written_in, feed_of, refused as refused-block, blocked_by, block}
use Rattle.blocks.proofs.Feeds.{feed_full}
use Rattle.ledger.specs.Call.{Call, Answer, refused_by, byte_says, run, gateway_after, calls_made}
use Rattle.ledger.specs.Call.Call.{Byte}
use Rattle.ledger.specs.Call.Answer.{Refused, Dropped, Done, Queued, Replied}
use Rattle.ledger.specs.Ledger.{is_queued}
use Rattle.ledger.specs.Start.{Start, gateway_of}
use Rattle.ledger.specs.Blocks.{Act, reply_in, number_said, taken_said, times_said, replies_in, byte_calls, calls_in, after_act, list_of, acts_after, said_in, BlockRight, WholeActs}
use Rattle.ledger.specs.Blocks.Act.{One, Block}
use Rattle.ledger.proofs.Theorem.{whole_list}

-- ---- the answers of byte calls, in demand 3's words

-- an answer with its reply's bytes
abbrev saying : ByteAnswer → List ℕ → Answer
saying bytes.Nothing reply = Done
saying (bytes.Refused e) reply = refused_by (byte_number e) (body_taken e)
saying (bytes.Queued n) reply = Queued n
saying (bytes.Replied n) reply = Replied reply

-- the reply is read off the front of the buffer
says_so : (area : List ℕ) (a : ByteAnswer) (reply : List ℕ) → ByteWrites a reply → byte_says a (overlay reply area) ≡ saying a reply
says_so area _ _ nothing = refl
says_so area _ _ (refused e) = refl
says_so area _ _ (queued n h) = refl
says_so area _ _ (replied content fits) = ap (λ (l : List ℕ). Replied l) (overlay_take (on_line content) area)

-- answers and replies of byte calls, and what demand 3 says of them
pub data Says : List ByteAnswer → List ℕ → List Answer → Type 0 where
  none : Says [] [] []
  more : {answers : List ByteAnswer} {replies : List ℕ} {said : List Answer} (a : ByteAnswer) (reply : List ℕ) → ByteWrites a reply
      → Says answers replies said → Says (a ∷ answers) (reply ++ replies) (saying a reply ∷ said)

module _ (n t : ℕ) where
  refused_number : (drop : Bool) → number_said (cond drop (Dropped n t) (Refused n)) ≡ n
  refused_number true = refl
  refused_number false = refl

  refused_queued : (drop : Bool) → is_queued (cond drop (Dropped n t) (Refused n)) ≡ false
  refused_queued true = refl
  refused_queued false = refl

  refused_reply : (drop : Bool) → reply_in (cond drop (Dropped n t) (Refused n)) ≡ []
  refused_reply true = refl
  refused_reply false = refl

drop_taken : (d : Drop) (n : ℕ) → taken_said (refused_by (drop_number d) n) ≡ n
drop_taken Restarted n = refl
drop_taken Early n = refl
drop_taken TooLong n = refl
drop_taken Checksum n = refl

frame_taken : (e : FrameError) → taken_said (refused_by (number_of e) 0) ≡ 0
frame_taken WrongType = refl
frame_taken TooShort = refl
frame_taken WrongService = refl
frame_taken UnknownMethod = refl
frame_taken ServiceNotUsed = refl
frame_taken WrongWidth = refl
frame_taken UnknownAddress = refl
frame_taken StateTooHigh = refl

refused_taken : (e : ByteRefusal) → taken_said (refused_by (byte_number e) (body_taken e)) ≡ body_taken e
refused_taken refusal.Short = refl
refused_taken (refusal.Dropped d n) = drop_taken d n
refused_taken (refusal.Rejected e) = frame_taken e
refused_taken refusal.FieldWaits = refl
refused_taken refusal.QueueFull = refl

say_number : (a : ByteAnswer) (reply : List ℕ) → number_said (saying a reply) ≡ number_in a
say_number bytes.Nothing reply = refl
say_number (bytes.Refused e) reply = refused_number (byte_number e) (body_taken e) (is_drop (byte_number e))
say_number (bytes.Queued n) reply = refl
say_number (bytes.Replied n) reply = refl

say_queued : (a : ByteAnswer) (reply : List ℕ) → is_queued (saying a reply) ≡ counts.is_queued a
say_queued bytes.Nothing reply = refl
say_queued (bytes.Refused e) reply = refused_queued (byte_number e) (body_taken e) (is_drop (byte_number e))
say_queued (bytes.Queued n) reply = refl
say_queued (bytes.Replied n) reply = refl

say_taken : (a : ByteAnswer) (reply : List ℕ) → taken_said (saying a reply) ≡ taken_in a
say_taken bytes.Nothing reply = refl
say_taken (bytes.Refused e) reply = refused_taken e
say_taken (bytes.Queued n) reply = refl
say_taken (bytes.Replied n) reply = refl

say_reply : (a : ByteAnswer) (reply : List ℕ) → ByteWrites a reply → reply_in (saying a reply) ≡ reply
say_reply _ _ nothing = refl
say_reply _ _ (refused e) = refused_reply (byte_number e) (body_taken e) (is_drop (byte_number e))
say_reply _ _ (queued n h) = refl
say_reply _ _ (replied content fits) = refl

-- ---- so the counts and the replies are those of the answers

-- elements that pass a test, where two lists pass alike
filter_alike : {A B : Type 0} (p : A → Bool) (q : B → Bool) (x : A) (y : B) (l : List A) (m : List B) → p x ≡ q y → length (filter p l) ≡ length (filter q m)
    → length (filter p (x ∷ l)) ≡ length (filter q (y ∷ m))
filter_alike p q x y l m e h = rw e (go (q y))
  where
    go : (t : Bool) → length (cond t (x ∷ filter p l) (filter p l)) ≡ length (cond t (y ∷ filter q m) (filter q m))
    go true = ap suc h
    go false = h

said_times : (k : ℕ) {answers : List ByteAnswer} {replies : List ℕ} {said : List Answer} → Says answers replies said → times_said k said ≡ times k answers
unfolding times_said times
said_times k none = refl
said_times k (more {answers} {replies} {said} a reply w rest) =
    filter_alike (λ (x : Answer). eqb (number_said x) k) (λ (x : ByteAnswer). eqb (number_in x) k) (saying a reply) a said answers
    (ap (λ (n : ℕ). eqb n k) (say_number a reply)) (said_times k rest)

pub said_numbers : {answers : List ByteAnswer} {replies : List ℕ} {said : List Answer} → Says answers replies said
    → (ks : List ℕ) → map (λ k. times k answers) ks ≡ map (λ k. times_said k said) ks
said_numbers s [] = refl
said_numbers s (k ∷ ks) = λ i. sym (said_times k s) i ∷ said_numbers s ks i

pub said_queued : {answers : List ByteAnswer} {replies : List ℕ} {said : List Answer} → Says answers replies said → length (filter is_queued said) ≡ times_queued answers
unfolding times_queued
said_queued none = refl
said_queued (more {answers} {replies} {said} a reply w rest) =
    filter_alike is_queued counts.is_queued (saying a reply) a said answers (say_queued a reply) (said_queued rest)

pub said_taken : {answers : List ByteAnswer} {replies : List ℕ} {said : List Answer} → Says answers replies said → sum (map taken_said said) ≡ total_taken answers
unfolding total_taken sum
said_taken none = refl
said_taken (more a reply w rest) = rw (say_taken a reply, said_taken rest)

pub said_replies : {answers : List ByteAnswer} {replies : List ℕ} {said : List Answer} → Says answers replies said → replies_in said ≡ replies
unfolding replies_in
said_replies none = refl
said_replies (more a reply w rest) = rw (say_reply a reply w, said_replies rest)

pub said_length : {answers : List ByteAnswer} {replies : List ℕ} {said : List Answer} → Says answers replies said → length said ≡ length answers
said_length none = refl
said_length (more a reply w rest) = ap suc (said_length rest)

-- ---- the byte calls of a block

module _ (l : Line) where
  -- the answers of the calls
  abbrev answers_of : Gateway → List Call → List Answer
  answers_of g cs = map (λ m. m.answer) (calls_made g cs)

  abbrev pub Fed : Gateway → List Call → Feed → Type 0
  Fed g cs x = (gateway_after g cs ≡ x.gateway) × Says x.answers x.replies (answers_of g cs)

  pub fed_if : (full : Bool) (g : Gateway) (b : ℕ) (area : List ℕ) (cs : List Call) (rest : Feed) → Fed (run g (Byte l b area)).gateway cs rest
      → Fed g (cond full [] (Byte l b area ∷ cs)) (unless_full full g (byte (view g) l b (length area)) rest)
  unfolding gateway_after calls_made run
  fed_if true g b area cs rest h = (refl, none)
  fed_if false g b area cs rest h =
      let x = byte (view g) l b (length area) in
      let w = byte_writes (view g) l b (length area) in
      let after = answers_of (fed g x).gateway cs in
      (h.0, subst (λ (a : Answer). Says (x.answer ∷ rest.answers) (x.reply ++ rest.replies) (a ∷ after)) (sym (says_so area x.answer x.reply w)) (more x.answer x.reply w h.1))

  -- what is left of the area for the bytes after it
  area_left : (g : Gateway) (b : ℕ) (area : List ℕ) → let x = byte (view g) l b (length area) in
      length (drop (length (reply_in (run g (Byte l b area)).answer)) area) ≡ length area - length x.reply
  unfolding run
  area_left g b area =
      let x = byte (view g) l b (length area) in
      let w = byte_writes (view g) l b (length area) in
      length-drop _ area ∙ ap (λ (k : List ℕ). length area - length k) (ap reply_in (says_so area x.answer x.reply w) ∙ say_reply x.answer x.reply w)

  calls_fed : (g : Gateway) (area bs : List ℕ) → Fed g (byte_calls g l area bs) (feed g l (length area) bs)
  unfolding byte_calls feed gateway_after calls_made run
  calls_fed g area [] = (refl, none)
  calls_fed g area (b ∷ bs) =
      let r = run g (Byte l b area) in
      let left = drop (length (reply_in r.answer)) area in
      let rest = calls_fed r.gateway left bs in
      fed_if (ltb (length area) room) g b area (byte_calls r.gateway l left bs) _
      (subst (λ (n : ℕ). Fed r.gateway (byte_calls r.gateway l left bs) (feed r.gateway l n bs)) (area_left g b area) rest)

  calls_none : (g : Gateway) (area bs : List ℕ) → ltb (length area) room ≡ true → byte_calls g l area bs ≡ []
  unfolding byte_calls
  calls_none g area [] e = refl
  calls_none g area (b ∷ bs) e = rw e

  pub calls_length : (g : Gateway) (cs : List Call) → length (answers_of g cs) ≡ length cs
  unfolding calls_made
  calls_length g [] = refl
  calls_length g (c ∷ cs) = ap suc (calls_length (run g c).gateway cs)

-- ---- a block

module _ (g : Gateway) (l : Line) (bytes area : List ℕ) where
  abbrev x : Feed
  x = feed_of g l bytes (length area)

  abbrev said : List Answer
  said = said_in g (Block l bytes area)

  says : Says x.answers x.replies said
  says = (calls_fed l g area (take most_used bytes)).1

  -- what the block call hands back, by the bytes used; a refused one used none
  abbrev answer : (short : Bool) → BlockAnswer
  answer short = cond short (Err Short) (used_by (length x.answers) (length x.replies))

  abbrev handed : (short : Bool) → Blocked
  handed short = record { gateway = x.gateway; answer = answer short; counts = counted x.answers }

  module _ (e : ltb (length area) room ≡ true) where
    no_bytes : x ≡ unused g
    no_bytes = feed_full l g (length area) (take most_used bytes) (ltb-true (length area) room e)

  is_block : block g l bytes (length area) ≡ handed (ltb (length area) room)
  unfolding block
  is_block = go (ltb (length area) room) refl
    where
      go : (short : Bool) → ltb (length area) room ≡ short → cond short (refused-block g) (blocked_by x) ≡ handed short
      go true e = rw (no_bytes e)
      go false e = refl

  answered : (short : Bool) → ltb (length area) room ≡ short
      → (block_number (answer short) ≡ cond short 1 0) × (used_in (answer short) ≡ length x.answers) × (written_in (answer short) ≡ length x.replies)
  answered true e = rw (no_bytes e) (refl, refl, refl)
  answered false e = (refl, refl, refl)

  pub block_right : BlockRight g l bytes area
  unfolding counted
  block_right =
      let a = answered (ltb (length area) room) refl in
      record {
        refused = ap (λ (r : Blocked). block_number r.answer) is_block ∙ a.0;
        none = calls_none l g area (take most_used bytes);
        gateway = (calls_fed l g area (take most_used bytes)).0 ∙ sym (ap (λ (r : Blocked). r.gateway) is_block);
        used = ap (λ (r : Blocked). used_in r.answer) is_block ∙ a.1 ∙ sym (said_length says) ∙ calls_length l g (calls_in g (Block l bytes area));
        numbers = ap (λ (r : Blocked). r.counts.numbers) is_block ∙ said_numbers says counted_numbers;
        queued = ap (λ (r : Blocked). r.counts.queued) is_block ∙ sym (said_queued says);
        body = ap (λ (r : Blocked). r.counts.body) is_block ∙ sym (said_taken says);
        written = ap (λ (r : Blocked). written_in r.answer) is_block ∙ a.2 ∙ ap length (sym (said_replies says));
        replies = ap (λ (k : List ℕ). overlay k area) (sym (said_replies says));
      }

-- ---- a list of acts

-- calls after calls
after_append : (g : Gateway) (cs ds : List Call) → gateway_after g (cs ++ ds) ≡ gateway_after (gateway_after g cs) ds
unfolding gateway_after
after_append g [] ds = refl
after_append g (c ∷ cs) ds = after_append (run g c).gateway cs ds

act_after : (g : Gateway) (a : Act) → gateway_after g (calls_in g a) ≡ after_act g a
unfolding gateway_after
act_after g (One c) = refl
act_after g (Block l bytes area) = (block_right g l bytes area).gateway

acts_after_lem : (g : Gateway) (acts : List Act) → gateway_after g (list_of g acts) ≡ acts_after g acts
unfolding gateway_after list_of acts_after
acts_after_lem g [] = refl
acts_after_lem g (a ∷ acts) =
    after_append g (calls_in g a) (list_of (after_act g a) acts) ∙ ap (λ (h : Gateway). gateway_after h (list_of (after_act g a) acts)) (act_after g a)
    ∙ acts_after_lem (after_act g a) acts

-- demand 3 with blocks: each stands for its byte calls
pub whole_acts : (s : Start) (acts : List Act) → WholeActs s acts
whole_acts s acts =
    record {
      list = whole_list s (list_of (gateway_of s) acts);
      gateway = acts_after_lem (gateway_of s) acts;
      blocks = λ before l bytes area rest e. block_right (acts_after (gateway_of s) before) l bytes area;
    }
