mod ShortMessages
mod Taking
mod EndMoves
mod Fitting
pub mod LaneMoves
pub mod CoreLaws
pub mod AlwaysSteps
pub mod PortRuns
pub mod WireLaws
pub mod GroupsAgree
mod MessageDoes
mod OwnBytes
mod OwedSays
mod EndCounting
mod MemoryRoom
mod RemainingReady
pub mod LettingGo
mod HeardCounts
mod HeldCounts
mod PutCounts
mod TookCounts
mod TookWhat
mod SlotsFound
mod StepCounts
mod RemainingEnds
mod FlightSums
mod PortCounts
pub mod RemainingSteps
pub mod RemainingTakes
pub mod RuleFrames
mod FlightRuns
pub mod RuleRest
pub mod RuleIdle
pub mod RuleGroups
pub mod RuleTwoIdle
pub mod PortCauses
pub mod PortResets
pub mod RuleAsks
mod PeerOpens
mod SessionsHeard
mod RingMoves
mod RingFetches
mod RingSteps
mod PortTwoEnds
mod RingEvents
mod ReadyFrames
mod LogsStand
mod RingActs
pub mod RingRuns
pub mod RuleUnforged
pub mod RemainingFrames
mod WayMoves
mod WayPlain
mod Outbox
mod HearsIn
mod Refusing
mod GroupsExchanged
mod FormsOwn
mod GroupsLearnt
mod TakesIn
mod ExchangeSteps
mod ExchangeGuest
mod ExchangeHub
mod ExchangeRuns
pub mod NoRefusal
pub mod RemainingResets
pub mod RemainingBound
pub mod EveryRun
pub mod RuleNoneUntold
mod WayActs
pub mod WayRuns
pub mod RuleNoneLeft
mod MemoryLong
pub mod RuleTable
mod RingFinds
pub mod RuleSlots
mod LastEvent
mod FewWait
mod NeverFull
pub mod CalmTurns
pub mod CrossingFrames
pub mod PortWire
pub mod IdleSteps
pub mod FramesOnce
pub mod FramesAll
