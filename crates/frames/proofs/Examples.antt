-- What the monitor prints of document 01's exchange K, computed. Assumes nothing.
use Rattle.std.proofs.Common.{◌≡◌, [], ◌∷◌, refl}
use Rattle.lists.specs.Outputs.{outputs}
use Rattle.text.specs.Decimal.{leading, decimal}
use Rattle.text.specs.Texts.{texts}
use Rattle.text.specs.Event.{event_text, drop_line}
use Rattle.tpck.specs.Frame.{sum, checksum}
use Rattle.tpck.specs.Receive.{step}
use Rattle.frames.specs.Lines.{frame_line}
use Rattle.frames.specs.Monitor.{monitored}

-- (01, K; 02, M-102) CA CA 00 06 06 35: "1 drop 3 0" and "5 frame 6 0"
monitor_of_K : monitored (0xCA ∷ 0xCA ∷ 0x00 ∷ 0x06 ∷ 0x06 ∷ 0x35 ∷ [])
    ≡ 49 ∷ 32 ∷ 100 ∷ 114 ∷ 111 ∷ 112 ∷ 32 ∷ 51 ∷ 32 ∷ 48 ∷ 10
    ∷ 53 ∷ 32 ∷ 102 ∷ 114 ∷ 97 ∷ 109 ∷ 101 ∷ 32 ∷ 54 ∷ 32 ∷ 48 ∷ 10 ∷ []
unfolding outputs frame_line drop_line event_text decimal leading texts step checksum sum
monitor_of_K = refl
