-- A store behind a cache, as an image: its bytes and its counts, but that a read which it was spared is a call all the same.
use Rattle.vio_io.specs.declared.store.Store.{Ghosts}
use Rattle.cached_store.specs.CachedState.{CachedState, calls_of}
use Rattle.disk_law.specs.ListState.{ImageState}

abbrev pub cached_image : {D : Type 0} → Ghosts D → CachedState D → ImageState
cached_image store cached = record {
  told = store.content cached.inner;
  faults = store.faults cached.inner;
  calls = calls_of store.calls cached;
  flushes = store.flushes cached.inner;
  writes = store.writes cached.inner;
}
