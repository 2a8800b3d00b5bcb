-- Some reads and some writes, one after the other, by the calls that made them.
use Rattle.std.specs.Prelude.{◌≡◌, ℕ, ◌<◌, Bool, true, false, not, ◌||◌, List, [], ◌∷◌, ◌++◌}
use Rattle.console.specs.declared.Input.{Input}
use Rattle.console.specs.declared.Output.{Output}
use Rattle.console.specs.Trace.{without_input, took, without_output, wrote}

-- a call that read: how many bytes were asked for at most, which came, and whether the read failed
pub record Read : Type 0 where
  pub asked : ℕ
  pub bytes : List ℕ
  pub failed : Bool

-- the history of some reads
unfoldable pub took_all : Input → List Read → Input
took_all i [] = i
took_all i (r ∷ rs) = took_all (took i r.asked r.bytes r.failed) rs

-- all bytes that they read
unfoldable pub bytes_of : List Read → List ℕ
bytes_of [] = []
bytes_of (r ∷ rs) = r.bytes ++ bytes_of rs

-- a call that wrote: the bytes that were handed over, and whether all of them went through
pub record Write : Type 0 where
  pub bytes : List ℕ
  pub whole : Bool

-- the history of some writes
unfoldable pub wrote_all : Output → List Write → Output
wrote_all o [] = o
wrote_all o (w ∷ ws) = wrote_all (wrote o w.bytes w.whole) ws

-- all bytes that they handed over
unfoldable pub handed_over : List Write → List ℕ
handed_over [] = []
handed_over (w ∷ ws) = w.bytes ++ handed_over ws

-- whether one of them failed
unfoldable pub some_read_failed : List Read → Bool
some_read_failed [] = false
some_read_failed (r ∷ rs) = r.failed || some_read_failed rs

unfoldable pub some_write_failed : List Write → Bool
some_write_failed [] = false
some_write_failed (w ∷ ws) = not w.whole || some_write_failed ws

-- the last read asked for bytes and got none, and did not fail
pub record EndRead (rs : List Read) : Type 0 where
  pub before : List Read
  pub asked : ℕ
  pub some : 0 < asked
  pub last : rs ≡ before ++ (record { asked = asked; bytes = []; failed = false } ∷ [])

-- the last read failed
pub record ReadFailed (rs : List Read) : Type 0 where
  pub before : List Read
  pub asked : ℕ
  pub last : rs ≡ before ++ (record { asked = asked; bytes = []; failed = true } ∷ [])

-- the last write failed
pub record WriteFailed (ws : List Write) : Type 0 where
  pub before : List Write
  pub bytes : List ℕ
  pub last : ws ≡ before ++ (record { bytes = bytes; whole = false } ∷ [])

-- What a program says of its reads and writes where these were made, in this order: that a read or a write failed exactly where one did,
-- which is then the last, and that the input has ended only where a read met the end.
pub record Told (input : Input) (output : Output) (ended unread failed : Bool) (reads : List Read) (writes : List Write) : Type 0 where
  pub input_is : input ≡ took_all without_input reads
  pub output_is : output ≡ wrote_all without_output writes
  pub unread_is : unread ≡ some_read_failed reads
  pub failed_is : failed ≡ some_write_failed writes
  pub read_failed : unread ≡ true → ReadFailed reads
  pub write_failed : failed ≡ true → WriteFailed writes
  pub end_read : ended ≡ true → EndRead reads

-- what it says of its reads of an input, which began with `first`
pub record ToldReads (first input : Input) (ended unread : Bool) (reads : List Read) : Type 0 where
  pub input_is : input ≡ took_all first reads
  pub unread_is : unread ≡ some_read_failed reads
  pub read_failed : unread ≡ true → ReadFailed reads
  pub end_read : ended ≡ true → EndRead reads
