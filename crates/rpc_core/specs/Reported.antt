-- What a look-up says, independent of the place of its frame in memory.
use Rattle.rpc_core.specs.declared.cache.Looked.{Looked}
use Rattle.rpc_core.specs.declared.cache.Looked.TheVariants as looked
use Rattle.rpc_core.specs.Cache.{Reported, new, again, old}

-- what a look-up says, with the octets of its frame
abbrev pub reported : Looked → Reported
reported looked.New = new
reported (looked.Again frame) = again frame.now.items
reported looked.Old = old
