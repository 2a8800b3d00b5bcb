-- `text::appending::append` meets its contract: the piece is copied into its part.
use Rattle.text.specs.Appended.{copied}
use Rattle.text.proofs.appending.append.Goals as goal

pub returns : goal.returns
returns c = copied _ _ _ _ c.copy_from_slice.ensures.after c.requires
