pub mod QuickPass
