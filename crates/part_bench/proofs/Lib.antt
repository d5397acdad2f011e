mod LaneShape
