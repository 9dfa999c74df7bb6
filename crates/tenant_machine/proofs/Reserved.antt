-- A machine with more rooms, and with another quota.
use Rattle.std.proofs.Common.{◌≡◌, ℕ, ◌*◌, ◌/◌, ◌%◌, ◌≤◌, ◌^◌, List, Option, arith}
use Rattle.lease_book.specs.Book.{Book}
use Rattle.quota_alarm.specs.declared.quota.Quota.{Quota}
use Rattle.revision_store.specs.Stored.{StoreState, roomier, with_cells}
use Rattle.tenant_machine.specs.Keyed.{KeepsLeases}
use Rattle.tenant_machine.specs.Reserving.{reservation}
use Rattle.tenant_machine.specs.Tenants.{IsMachine, machine_of}
use Rattle.watch_sync.specs.Agreeing.{WatchState}

keeps_roomier : (store : StoreState) (book : Book) (moment segments : ℕ) → KeepsLeases store book moment → KeepsLeases (roomier segments store) book moment
keeps_roomier store book moment segments keeps = record {
  keys = keeps.keys;
  recorded = keeps.recorded;
  timely = keeps.timely;
  counter = keeps.counter;
  revisions = keeps.revisions;
}

keeps_with_cells : (store : StoreState) (book : Book) (moment n : ℕ) → KeepsLeases store book moment → KeepsLeases (with_cells n store) book moment
keeps_with_cells store book moment n keeps = record {
  keys = keeps.keys;
  recorded = keeps.recorded;
  timely = keeps.timely;
  counter = keeps.counter;
  revisions = keeps.revisions;
}

-- the book may have more room than the store, and more memory than that asks for
pub wider_machine : (store : StoreState) (book : Book) (moment : ℕ) (quota : Quota) (room taken : ℕ) → IsMachine store book moment quota → book.room ≤ room → taken ≤ 2 ^ 20 → IsMachine store (record book { room = room; taken = taken }) moment quota
wider_machine store book moment quota room taken is more few = record {
  used = is.used;
  leases = is.leases;
  room = omega (arith, is.room, more);
  taken = few;
  clock = is.clock;
  within = is.within;
  allowed = is.allowed;
  reserved = is.reserved;
  few = is.few;
  keeps = record {
    keys = is.keeps.keys;
    recorded = is.keeps.recorded;
    timely = is.keeps.timely;
    counter = is.keeps.counter;
    revisions = is.keeps.revisions;
  };
}

-- the store has rooms for no more leases than the book
pub roomier_machine : (store : StoreState) (book : Book) (moment : ℕ) (quota : Quota) (segments : ℕ) → IsMachine store book moment quota → segments ≤ 2 ^ 14 → 64 * segments ≤ book.room → IsMachine (roomier segments store) book moment quota
roomier_machine store book moment quota segments is few room = record {
  used = is.used;
  leases = is.leases;
  room = omega (arith, is.room, room);
  taken = is.taken;
  clock = is.clock;
  within = is.within;
  allowed = is.allowed;
  reserved = omega (arith, is.reserved);
  few = omega (arith, is.few, few);
  keeps = keeps_roomier store book moment segments is.keeps;
}

-- as many cells are reserved as are in use and as the quota has, and there are rooms for them
pub requota_machine : (store : StoreState) (book : Book) (moment : ℕ) (quota : Quota) (n most : ℕ) → IsMachine store book moment quota → n % 64 ≡ 0 → n / 64 ≤ store.share.rooms → quota.used ≤ n → most ≤ n → IsMachine (with_cells n store) book moment (record quota { cells = most })
requota_machine store book moment quota n most is whole rooms used allowed = record {
  used = is.used;
  leases = is.leases;
  room = is.room;
  taken = is.taken;
  clock = is.clock;
  within = omega (arith, used, whole);
  allowed = omega (arith, allowed, whole);
  reserved = rooms;
  few = is.few;
  keeps = keeps_with_cells store book moment n is.keeps;
}

-- what a quota takes holds what is in use, the quota and what is drawn
module _ (cluster : ℕ) (store : StoreState) (book : Book) (watchers : List (Option WatchState)) (moment : ℕ) (quota : Quota) (most segments : ℕ) (is : IsMachine store book moment quota) (takes : segments ≡ reservation (machine_of cluster store book watchers moment quota) most) where
  pub takes_used : quota.used ≤ segments * 64
  takes_used = omega (arith, is.used, takes)

  pub takes_quota : most ≤ segments * 64
  takes_quota = omega (arith, takes)

  pub takes_drawn : store.share.drawn ≤ segments
  takes_drawn = omega (arith, takes)
