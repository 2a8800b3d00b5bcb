-- `feeding::feed` meets its contract.
use Rattle.feeding.proofs.OneTurn.{lawful}
use Rattle.feeding.proofs.feed.Goals as goal

pub feed-requires : goal.feed-requires
feed-requires c = ((_, lawful), c.requires.0, c.requires.1, c.requires.2, c.requires.3)
