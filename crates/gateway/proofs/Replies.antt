-- A reply of at most twelve data bytes: it fits, so the writer writes its frame, and it can be read off its array. Assumes nothing.
use mathlib.Core.Path.{◌≡◌, ap, ◌∙◌}
use mathlib.Core.List.{List, [], ◌∷◌}
use Prim.Native.Nat.{ℕ, ◌≤◌}
use native.Mathlib.Omega.{arith}
use lib.ListN.{length, take, length-append}
use borrow.Author.Tests.{le-ltb}
use Rattle.std.specs.Prelude.{Result, Ok}
use Rattle.lists.specs.Overlay.{overlay}
use Rattle.tpck.specs.Frame.{checksum, header, frame}
use Rattle.tpck.specs.Write as writer
use Rattle.tpck.specs.declared.writer.Refusal.{Refusal}
use Rattle.tpck.proofs.Sizes.{frame_twice}
use Rattle.trpc.specs.declared.replies.Reply.{Reply}
use Rattle.trpc.specs.Judging.{record_type}
use Rattle.trpc.specs.Replies.{reply_of}
use Rattle.trpc.proofs.Packing.{pad_front}
use Rattle.gateway.specs.Reply.{on_line, room, Fits, content_of, bytes_of, sent, sent_buffer}

module _ (content : List ℕ) (few : length content ≤ 12) where
  pub fits : Fits content
  unfolding on_line
  fits =
      record {
        bytes = few;
        body = omega (arith, length-append (header record_type content) (checksum (header record_type content) ∷ []));
        line = omega (arith, frame_twice record_type content);
      }

  -- so the writer has room for it
  module _ (buf : List ℕ) (long : room ≤ length buf) where
    pub reply_written : writer.write record_type content buf ≡ Ok (length (on_line content))
    unfolding on_line
    reply_written =
        rw (le-ltb 255 (length content) (omega arith), le-ltb (length buf) (length (frame record_type content)) (omega (arith, fits.line)))

    pub reply_left : writer.buffer record_type content buf ≡ overlay (on_line content) buf
    unfolding on_line
    reply_left = ap (λ (w : Result ℕ Refusal). overlay (writer.line_of w (frame record_type content)) buf) reply_written

  -- the data in the struct of a reply
  module _ (r : Reply) (is : r ≡ reply_of content) where
    pub packed_few : r.len ≤ 12
    packed_few = omega (arith, ap (λ (x : Reply). x.len) is)

    pub packed_content : content_of r ≡ content
    packed_content = ap (λ (x : Reply). take x.len x.bytes) is ∙ pad_front 12 content few

    -- sent to a buffer with room for a reply: the frame's length, and the frame in front
    module _ (buf : List ℕ) (long : room ≤ length buf) where
      pub sent_length : sent r buf ≡ length (on_line content)
      sent_length = ap (λ (l : List ℕ). bytes_of (writer.write record_type l buf)) packed_content ∙ ap (λ (w : Result ℕ Refusal). bytes_of w) (reply_written buf long)

      pub sent_left : sent_buffer r buf ≡ overlay (on_line content) buf
      sent_left = ap (λ (l : List ℕ). writer.buffer record_type l buf) packed_content ∙ reply_left buf long
